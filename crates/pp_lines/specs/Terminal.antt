-- A terminal: a source and a sink in one, each behind a reference.
use Rattle.std.specs.Prelude.{List}
use Rattle.pp_lines.specs.Dialogue.{Dialogue}
use Rattle.pp_lines.specs.declared.terminal.Terminal.{Terminal}

-- The source as it is now.
abbrev pub source_of : {R W : Type 0} → Terminal R W → R
source_of terminal = terminal.source.now

-- The sink as it is now.
abbrev pub sink_of : {R W : Type 0} → Terminal R W → W
sink_of terminal = terminal.output.now

-- What had been read and written before each read of the terminal so far, the latest read first.
abbrev pub at_reads : {R W : Type 0} → Terminal R W → List Dialogue
at_reads terminal = terminal.log.at_reads
