use Rattle.std.proofs.Common.{◌≡◌, ◌∙◌, ◌++◌, [], refl, sym, ap, take, rules, append_assoc, append-nil}
use Rattle.std.proofs.lemmas.Result.{err_from_is_err_and}
use Rattle.std.specs.Io.KnownBytes.{Consumes, IsAtEnd}
use Rattle.pp_lines.specs.Terminal.{sink_of, source_of}
use Rattle.pp_console.specs.Serving.{origin_of}
use Rattle.pp_lines.proofs.Reading.{Consumes-nothing, Consumes-again, Consumes-keeps}
use Rattle.pp_console.proofs.{Reading.HasRead-new, Reading.Performed-within, Ending.Stops-interrupted}
use Rattle.pp_console.proofs.Ordered.{HasRead-on_time, more-bytes, no-bytes, one-more-read, same-reads}
use Rattle.pp_console.proofs.serving.serve_terminal.Goals as goal

pub pieces-init : goal.pieces-init
pieces-init g c = record {
  has_read = (
    [],
    Consumes-nothing (g.R.Source.rest (source_of c.args.terminal.now)),
    sym (append-nil (g.R.Source.given (source_of c.args.terminal.now))),
    λ start at. HasRead-new _ _ _ start at c.new-progress.ensures.line
        c.new-progress.ensures.bytes c.new-progress.ensures.lines c.new-progress.ensures.refused,
    λ start at. no-bytes,
  );
  reads = refl;
  writes = refl;
  same_source = refl;
  same_output = refl;
}

pub returns-in-Err-clause-script : goal.returns-in-Err-clause-script
returns-in-Err-clause-script g c = let (taken, consumed, given, has_read, on_time) = c.pieces.invariant.has_read in (
  taken,
  Consumes-keeps _ (g.R.Source.rest (source_of c.pieces.terminal)) _ _ consumed c.in-Err.ensures.bytes,
  c.in-Err.ensures.given ∙ given,
  λ start at. rw c.in-Err.ensures.sink (Performed-within (has_read start at)),
)

pub returns-in-Err-clause-order : goal.returns-in-Err-clause-order
returns-in-Err-clause-order g c = λ others same start at.
    let (taken, consumed, given, has_read, on_time) = c.pieces.invariant.has_read in
    let nil = ap (λ bytes. g.R.Source.given (source_of c.args.terminal.now) ++ bytes) (sym (append-nil taken)) in
    same-reads _ _ (taken ++ []) others (c.in-Err.ensures.given ∙ given ∙ nil) same
    (one-more-read _ _ c.in-Err.ensures.at_reads c.in-Err.ensures.called tt (HasRead-on_time _ given (has_read start at))
    (on_time start at))

pub returns-in-Ok-eq0-clause-script : goal.returns-in-Ok-eq0-clause-script
returns-in-Ok-eq0-clause-script g c =
    let (taken, consumed, given, has_read, on_time) = c.pieces.invariant.has_read in
    let before = source_of c.pieces.terminal in
    let after = source_of c.take.new.self in
    let same : g.R.Source.given after ≡ g.R.Source.given before ++ [] = search rules in
    let end : IsAtEnd (g.R.Source.rest after) = search rules in
    let all : Consumes (g.R.Source.rest (source_of c.args.terminal.now)) (g.R.Source.rest after) (taken ++ []) =
    Consumes-again _ (g.R.Source.rest before) _ taken [] consumed (search rules) in (
      taken,
      rw (append-nil taken) at all,
      same ∙ append-nil (g.R.Source.given before) ∙ given,
      λ start at. c.finish.ensures.serves (origin_of start (g.W.Sink.text (sink_of c.args.terminal.now))) taken
          (g.R.Source.rest after) end (rw c.in-Ok-eq0.ensures.sink (has_read start at)),
    )

pub returns-in-Ok-eq0-clause-order : goal.returns-in-Ok-eq0-clause-order
returns-in-Ok-eq0-clause-order g c = λ others same start at.
    let (taken, consumed, given, has_read, on_time) = c.pieces.invariant.has_read in
    let piece = take c.in-Ok-eq0.field-0 c.take.new.into in
    same-reads _ _ (taken ++ piece) others
    (c.in-Ok-eq0.ensures.given ∙ ap (λ front. front ++ piece) given ∙ append_assoc _ taken _) same
    (one-more-read _ _ c.in-Ok-eq0.ensures.at_reads c.in-Ok-eq0.ensures.called (search rules)
    (HasRead-on_time _ given (has_read start at)) (on_time start at))

pub pieces-preserved : goal.pieces-preserved
pieces-preserved g c = let (taken, consumed, given, has_read, on_time) = c.pieces.invariant.has_read in record {
  has_read = (
    taken ++ take c.in-Ok.count c.take.new.into,
    Consumes-again _ (g.R.Source.rest (source_of c.pieces.terminal)) _ taken _ consumed c.in-Ok.ensures.bytes.0,
    c.in-Ok.ensures.given ∙ ap (λ front. front ++ take c.in-Ok.count c.take.new.into) given ∙ append_assoc _ taken _,
    λ start at. c.in_ok-feed-in-Ok.ensures.has_read (origin_of start (g.W.Sink.text (sink_of c.args.terminal.now))) taken
        (rw c.in-Ok.ensures.sink (has_read start at)),
    λ start at. more-bytes _ _ c.in-Ok.ensures.at_reads c.in-Ok.ensures.called (search rules) (search rules)
        (HasRead-on_time _ given (has_read start at)) (on_time start at),
  );
  reads = search rules;
  writes = search rules;
  same_source = c.in-Ok.ensures.same_source ∙ c.pieces.invariant.same_source;
  same_output = c.in-Ok.ensures.same_output ∙ c.pieces.invariant.same_output;
}

pub returns-in_err-feed-in-Ok-clause-script : goal.returns-in_err-feed-in-Ok-clause-script
returns-in_err-feed-in-Ok-clause-script g c =
    let (taken, consumed, given, has_read, on_time) = c.pieces.invariant.has_read in
    let (fault, is_err, is) = err_from_is_err_and c.from_residual.result c.from_residual.ensures.1 in
    rw (is_err, is) (
      taken ++ take c.in-Ok.count c.take.new.into,
      Consumes-again _ (g.R.Source.rest (source_of c.pieces.terminal)) _ taken _ consumed c.in-Ok.ensures.bytes.0,
      c.in-Ok.ensures.given ∙ ap (λ front. front ++ take c.in-Ok.count c.take.new.into) given ∙ append_assoc _ taken _,
      λ start at. Stops-interrupted _ _ _ _ _ _
          (c.in_err-feed-in-Ok.ensures.has_read (origin_of start (g.W.Sink.text (sink_of c.args.terminal.now))) taken
          (rw c.in-Ok.ensures.sink (has_read start at))),
    )

pub returns-in_err-feed-in-Ok-clause-order : goal.returns-in_err-feed-in-Ok-clause-order
returns-in_err-feed-in-Ok-clause-order g c = λ others same start at.
    let (taken, consumed, given, has_read, on_time) = c.pieces.invariant.has_read in
    let piece = take c.in-Ok.count c.take.new.into in
    same-reads _ _ (taken ++ piece) others
    (c.in-Ok.ensures.given ∙ ap (λ front. front ++ piece) given ∙ append_assoc _ taken _) same
    (one-more-read _ _ c.in-Ok.ensures.at_reads c.in-Ok.ensures.called (search rules)
    (HasRead-on_time _ given (has_read start at)) (on_time start at))
