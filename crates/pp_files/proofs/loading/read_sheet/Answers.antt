use Rattle.std.proofs.Common.{◌≡◌, ◌∙◌, ◌++◌, [], refl, ap, sym, take, rules, inr, append_assoc, append-nil}
use Rattle.std.proofs.lemmas.Result.{err_from_is_err_and}
use Rattle.std.specs.Io.KnownBytes.{Consumes, IsAtEnd}
use Rattle.pp_lines.proofs.Reading.{Consumes-nothing, Consumes-again, Consumes-keeps}
use Rattle.pp_files.proofs.Loads.{HasReadFile-new, breaks-off, ends, fails-after}
use Rattle.pp_files.proofs.loading.read_sheet.Goals as goal

pub pieces-init : goal.pieces-init
pieces-init g c = record {
  has_read = (
    [],
    Consumes-nothing (g.R.Source.rest c.args.source.now),
    sym (append-nil (g.R.Source.given c.args.source.now)),
    HasReadFile-new _ g.S.Sheet.rule _ c.new.ensures refl refl c.requires,
  );
  reads = refl;
}

pub pieces-preserved : goal.pieces-preserved
pieces-preserved g c = record {
  has_read =
      let (taken, consumed, given, has_read) = c.pieces.invariant.has_read in (
        taken ++ take c.in-Ok.count c.take.new.into,
        Consumes-again _ (g.R.Source.rest c.pieces.source) _ taken _ consumed c.in-Ok.ensures.bytes.0,
        c.in-Ok.ensures.given ∙ ap (λ front. front ++ take c.in-Ok.count c.take.new.into) given ∙ append_assoc _ taken _,
        c.in_ok-feed-in-Ok.ensures.has_read taken has_read,
      );
  reads = search rules;
}

pub returns-in-Err-clause-file : goal.returns-in-Err-clause-file
returns-in-Err-clause-file g c = let (taken, consumed, given, has_read) = c.pieces.invariant.has_read in (
  taken,
  Consumes-keeps _ (g.R.Source.rest c.pieces.source) _ taken consumed c.in-Err.ensures.bytes,
  c.in-Err.ensures.given ∙ given,
  inr (inr (refl, breaks-off c.pieces.progress g.S.Sheet.rule _ taken has_read)),
)

pub returns-in-Ok-eq0-clause-file : goal.returns-in-Ok-eq0-clause-file
returns-in-Ok-eq0-clause-file g c =
    let (taken, consumed, given, has_read) = c.pieces.invariant.has_read in
    let same : g.R.Source.given c.take.new.self ≡ g.R.Source.given c.pieces.source ++ [] = search rules in
    let end : IsAtEnd (g.R.Source.rest c.take.new.self) = search rules in
    let all : Consumes (g.R.Source.rest c.args.source.now) (g.R.Source.rest c.take.new.self) (taken ++ []) =
    Consumes-again _ (g.R.Source.rest c.pieces.source) _ taken [] consumed (search rules) in (
      taken,
      rw (append-nil taken) at all,
      same ∙ append-nil (g.R.Source.given c.pieces.source) ∙ given,
      ends c.finish.result _ g.S.Sheet.rule _ _ (g.R.Source.rest c.take.new.self) taken
          (rw (append-nil taken) at all) end (search rules) (c.finish.ensures.read taken has_read),
    )

pub returns-in_err-feed-in-Ok-clause-file : goal.returns-in_err-feed-in-Ok-clause-file
returns-in_err-feed-in-Ok-clause-file g c =
    let (taken, consumed, given, has_read) = c.pieces.invariant.has_read in
    let (fault, is_err, is) = err_from_is_err_and c.from_residual.result c.from_residual.ensures.1 in
    let all = Consumes-again _ (g.R.Source.rest c.pieces.source) _ taken _ consumed c.in-Ok.ensures.bytes.0 in
    let rest = g.R.Source.rest c.take.new.self in
    rw (is_err, is) (
      taken ++ take c.in-Ok.count c.take.new.into,
      all,
      c.in-Ok.ensures.given ∙ ap (λ front. front ++ take c.in-Ok.count c.take.new.into) given ∙ append_assoc _ taken _,
      fails-after g.S.Sheet.rule _ _ rest _ _ all (c.in_err-feed-in-Ok.ensures.has_read taken has_read),
    )
