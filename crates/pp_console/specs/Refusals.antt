-- The answers to rejected lines: ERR, a number of two octal digits, and a text. Those of BACK, BACK W and FORWARD, which are 07,
-- 10, 15 and 16, stand in Commands.
use Rattle.std.specs.Prelude.{ℕ, List, codes}
use Rattle.pp_command.specs.declared.fault.LineFault.{LineFault}
use Rattle.pp_command.specs.declared.fault.LineFault.TheVariants.{NotACommand, WordCount, NotANumber, OutOfRange, TooLong, NotAscii}
use Rattle.pp_actions.specs.declared.action.ActionFault.{ActionFault}
use Rattle.pp_actions.specs.declared.action.ActionFault.TheVariants.{Range, WatchesFull, AlreadyWatched, NotWatched, NoPanel}

-- The answer to a line that is not a command.
unfoldable pub fault_text : LineFault → List ℕ
fault_text NotACommand = codes "ERR 01 NOT A COMMAND\n"
fault_text WordCount = codes "ERR 02 WORDS\n"
fault_text NotANumber = codes "ERR 03 NUMBER\n"
fault_text OutOfRange = codes "ERR 04 RANGE\n"
fault_text TooLong = codes "ERR 05 LINE TOO LONG\n"
fault_text NotAscii = codes "ERR 06 NOT ASCII\n"

-- The answer to an action that the machine does not admit.
unfoldable pub action_fault_text : ActionFault → List ℕ
action_fault_text Range = fault_text OutOfRange
action_fault_text WatchesFull = codes "ERR 11 WATCHES FULL\n"
action_fault_text AlreadyWatched = codes "ERR 12 ALREADY WATCHED\n"
action_fault_text NotWatched = codes "ERR 13 NOT WATCHED\n"
action_fault_text NoPanel = codes "ERR 14 NO PANEL\n"
