-- The meaning of the words.
use Rattle.std.proofs.Common.{◌≡◌, List, [], refl, inl, inr, Ok, Err, ◌⊎◌}
use Rattle.pp_arguments.specs.{CommandLine.Text, CommandLine.faults_of, Options.IsCauseOf, Options.asked_by, Options.asked_of}
use Rattle.pp_arguments.specs.declared.options.{ArgFault.ArgFault, Options.Options}
use Rattle.pp_arguments.specs.declared.options.ArgFault.TheVariants as argument
use Rattle.pp_trouble.specs.{Trouble.of_arguments, declared.trouble.Trouble.TheVariants.NoMemory}
use Rattle.pp_host.specs.{Known.Texts, Options.Means}

pub Means-asked : (words : List Text) (options : Options) → asked_by words ≡ Ok (asked_of options) → faults_of words ≡ [] →
    Means (Texts words) (Ok (asked_of options))
Means-asked words options asked line = inl (line, rw asked refl)

pub Means-rejected : (words : List Text) (fault : ArgFault) → IsCauseOf words fault →
    (of_arguments fault ≡ NoMemory) ⊎ Means (Texts words) (Err (of_arguments fault))
Means-rejected words argument.NoMemory cause = inl refl
Means-rejected words argument.Help (inl cause) = inr (inr (inl (cause, refl)))
Means-rejected words argument.BadArguments (inl (kind, among, other)) = inr (inr (inr (kind, among, other, refl)))
Means-rejected words argument.BadChannel (inl cause) = absurd cause
Means-rejected words fault (inr (line, asked)) = inr (inl (line, rw asked refl))
