use Rattle.pp_assembler.proofs.passes.assembly_of.Goals as goal

pub returns-clause-meaning : goal.returns-clause-meaning
returns-clause-meaning c = λ found.
    c.with_messages.ensures.meaning (c.in_ok-right.ensures.meaning (c.without_messages-made.ensures.meaning found))

pub returns-clause-decks : goal.returns-clause-decks
returns-clause-decks c = λ texts of taken read.
    c.with_messages.ensures.decks texts (c.in_ok-right.ensures.decks texts (c.without_messages-made.ensures.decks texts of taken read))
