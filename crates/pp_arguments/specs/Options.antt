-- The options that the words of the command line ask for.
use Rattle.std.specs.Prelude.{Bool, Err, List, None, Ok, Option, Result, Some, [], codes, if◌then◌else◌, is_some, nat_le}
use Rattle.std.specs.Prelude.{option_and_then, option_map, ℕ, ◌&&◌, ◌==◌, ◌≡◌, ◌≤◌, ◌⊎◌}
use Rattle.std.specs.String.{string_bytes}
use Rattle.pp_arith.specs.Octal.{is_octal, octal_value}
use Rattle.pp_machine.specs.declared.central.CentralSize.{CentralSize}
use Rattle.pp_machine.specs.declared.central.CentralSize.TheVariants.{K128, K32, K64}
use Rattle.pp_arguments.specs.CommandLine.{IsFaultOf, Text, are_taken, faults_of, value_of}
use Rattle.pp_arguments.specs.Decimal.{decimal_read}
use Rattle.pp_arguments.specs.declared.options.ArgFault.{ArgFault}
use Rattle.pp_arguments.specs.declared.options.ArgFault.TheVariants.{BadArguments, BadChannel, NoMemory}
use Rattle.pp_arguments.specs.declared.options.Options.{Options}

-- ---- one word

-- --history N: N is decimal, 1 to 10,000 actions.
abbrev pub history_read : Text → Option ℕ
history_read word = option_and_then (λ count. if nat_le 1 count then Some count else None) (decimal_read word 10000)

-- A size of central memory by its thousands of words, decimal.
abbrev pub size_of : ℕ → Option CentralSize
size_of thousands =
    if thousands == 32 then Some K32
    else (if thousands == 64 then Some K64
    else (if thousands == 128 then Some K128
    else None))

-- --central K: K is decimal, 32, 64 or 128.
abbrev pub central_read : Text → Option CentralSize
central_read word = option_and_then size_of (decimal_read word 128)

-- --reader C and --printer C: C is octal, channel 0 to 13 (octal).
abbrev pub channel_read : Text → Option ℕ
channel_read word = if is_octal word && nat_le (octal_value word) 0o13 then Some (octal_value word) else None

-- ---- all words

-- The usual value if the option is not there, otherwise the value of its word.
abbrev pub asked_or : {A : Type 0} → A → (Text → Option A) → Option Text → Option A
asked_or usual read None = Some usual
asked_or usual read (Some word) = read word

-- What words ask for: the length of the undo history, the size of central memory, the devices' channels and the files' names.
pub record Asked : Type 0 where
  pub history : ℕ
  pub central : CentralSize
  pub deck : Option Text
  pub reader : ℕ
  pub printer : ℕ
  pub panel : Option Text
  pub script : Option Text

-- The contents of the options.
abbrev pub asked_of : Options → Asked
asked_of options = record {
  history = options.history;
  central = options.central;
  deck = option_map string_bytes options.deck;
  reader = options.reader;
  printer = options.printer;
  panel = option_map string_bytes options.panel;
  script = option_map string_bytes options.script;
}

-- What words ask for with these numbers, if all are in range. N and K come first, and then the two channels.
abbrev pub asked_with : List Text → Option ℕ → Option CentralSize → Option ℕ → Option ℕ → Result Asked ArgFault
asked_with words (Some history) (Some central) (Some reader) (Some printer) = Ok (record {
  history = history;
  central = central;
  deck = value_of words (codes "deck");
  reader = reader;
  printer = printer;
  panel = value_of words (codes "panel");
  script = value_of words (codes "script");
})
asked_with words (Some history) (Some central) reader printer = Err BadChannel
asked_with words history central reader printer = Err BadArguments

-- What words that the command line accepts ask for, or why they are rejected. Without the options the undo history has 10,000
-- (decimal) actions, central memory is the largest one, the reader is on channel 12 and the printer on channel 13 (octal).
unfoldable pub asked_by : List Text → Result Asked ArgFault
asked_by words = asked_with words
    (asked_or 10000 history_read (value_of words (codes "history")))
    (asked_or K128 central_read (value_of words (codes "central")))
    (asked_or 0o12 channel_read (value_of words (codes "reader")))
    (asked_or 0o13 channel_read (value_of words (codes "printer")))

pub record AreInRange (options : Options) : Type 0 where
  pub some_history : 1 ≤ options.history
  pub history : options.history ≤ 10000
  pub reader : options.reader ≤ 0o13
  pub printer : options.printer ≤ 0o13

-- ---- faults

-- The command line accepts the words, and their number of actions and size of central memory are in range.
abbrev pub are_admitted : List Text → Bool
are_admitted words =
    are_taken words && (is_some (asked_or 10000 history_read (value_of words (codes "history")))
    && is_some (asked_or K128 central_read (value_of words (codes "central"))))

abbrev pub IsMemoryOrChannel : ArgFault → Type 0
IsMemoryOrChannel NoMemory = Unit {0}
IsMemoryOrChannel BadChannel = Unit {0}
IsMemoryOrChannel _ = ⊥

-- Why the words are rejected: memory ran out, the command line reports an error, or a number of them is out of range.
abbrev pub IsCauseOf : List Text → ArgFault → Type 0
IsCauseOf words NoMemory = Unit {0}
IsCauseOf words fault = IsFaultOf (faults_of words) fault ⊎ ((faults_of words ≡ []) × (asked_by words ≡ Err fault))
