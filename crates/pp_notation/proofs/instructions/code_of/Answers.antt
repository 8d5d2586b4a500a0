use Rattle.std.proofs.Common.{◌≢◌, ◌∙◌, arith}
use Rattle.std.specs.Cmp.Lexicographic.{other_text}
use borrow.Author.Count.{below_more}
use Rattle.pp_notation.specs.Mnemonics.{mnemonic}
use Rattle.pp_notation.proofs.instructions.code_of.Goals as goal

pub loop-code-preserved : goal.loop-code-preserved
loop-code-preserved c = below_more (λ other. mnemonic other ≢ c.args.name.now) c.loop-code.code c.loop-code.invariant
    (λ found. other_text c.name_of.result.now c.args.name.now c.if-eq.ensures (c.name_of.ensures ∙ found))

pub returns-clause-none : goal.returns-clause-none
returns-clause-none c = λ other below. c.loop-code.invariant other (omega arith)
