-- What ends the program early, and its exit status.
use Rattle.std.specs.Prelude.{ℕ}
use Rattle.pp_arguments.specs.declared.options.ArgFault.{ArgFault}
use Rattle.pp_arguments.specs.declared.options.ArgFault.TheVariants as arguments
use Rattle.pp_files.specs.declared.fault.LoadFault.{LoadFault}
use Rattle.pp_files.specs.declared.fault.LoadFault.TheVariants as load
use Rattle.pp_lines.specs.declared.fault.IoFault.{IoFault}
use Rattle.pp_lines.specs.declared.fault.IoFault.TheVariants as serving
use Rattle.pp_actions.specs.declared.setup.SetupFault.{SetupFault}
use Rattle.pp_actions.specs.declared.setup.SetupFault.TheVariants as setup
use Rattle.pp_trouble.specs.declared.trouble.FileKind.{FileKind}
use Rattle.pp_trouble.specs.declared.trouble.Trouble.{Trouble}
use Rattle.pp_trouble.specs.declared.trouble.Trouble.TheVariants.{BadArguments, BadChannel, DeckTooLong, Help, LineLimit, Load}
use Rattle.pp_trouble.specs.declared.trouble.Trouble.TheVariants.{NoMemory, ReadFailed, SameChannel, WriteFailed}

-- A fault of the words of the command line ends the program.
abbrev pub of_arguments : ArgFault → Trouble
of_arguments arguments.NoMemory = NoMemory
of_arguments arguments.Help = Help
of_arguments arguments.BadArguments = BadArguments
of_arguments arguments.BadChannel = BadChannel

-- A machine that can't be made ends the program.
abbrev pub of_setup : SetupFault → Trouble
of_setup setup.NoMemory = NoMemory
of_setup setup.SameChannel = SameChannel
of_setup setup.DeckTooLong = DeckTooLong

-- A fault that stops a script ends the program.
abbrev pub of_serving : IoFault → Trouble
of_serving serving.ReadFailed = ReadFailed
of_serving serving.WriteFailed = WriteFailed
of_serving serving.LineLimit = LineLimit

-- A deck or a panel that can't be loaded ends the program. Memory that ran out and a failed read are reported without the file.
abbrev pub of_load : FileKind → LoadFault → Trouble
of_load file load.NoMemory = NoMemory
of_load file load.ReadFailed = ReadFailed
of_load file fault = Load file fault

-- The exit status: 0 for help, 3 if a read or a write failed or a script passed its limits, and 2 for all else.
abbrev pub status_of : Trouble → ℕ
status_of Help = 0
status_of ReadFailed = 3
status_of WriteFailed = 3
status_of LineLimit = 3
status_of _ = 2
