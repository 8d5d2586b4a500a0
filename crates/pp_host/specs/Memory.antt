-- The files of a host in memory.
use Rattle.std.specs.Prelude.{List, [], ◌∷◌, if◌then◌else◌}
use Rattle.std.specs.Str.{bytes_eq}
use Rattle.pp_arguments.specs.CommandLine.{Text}
use Rattle.pp_host.specs.Known.{Content, Found, Missing}
use Rattle.pp_host.specs.declared.memory.StoredFile.{StoredFile}

-- what a path names: the first file of this path
abbrev pub file_named : List StoredFile → Text → Found
file_named [] path = Missing
file_named (file ∷ files) path = if bytes_eq file.path.now path then Content file.bytes.now else file_named files path
