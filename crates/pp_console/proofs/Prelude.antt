-- The names of a session and of a script that most proofs cite, passed on from one place. Declares nothing.
pub use Rattle.std.proofs.lemmas.Result.{err_from_is_err_and}
pub use Rattle.pp_history.specs.SessionValue.{IsAt}
pub use Rattle.pp_rig.specs.Rules.{rules}
pub use Rattle.pp_lines.specs.LineCutter.{IsPrefixOf}
pub use Rattle.pp_lines.specs.Lines.{lines, finished, unfinished, finished_within, IsWithin}
pub use Rattle.pp_lines.specs.Output.{Appends, Written}
pub use Rattle.pp_lines.specs.Puts.{Puts}
pub use Rattle.pp_lines.proofs.Writing.{Appends-again, front_longer}
pub use Rattle.pp_lines.specs.declared.device.Sink.{Ghosts}
pub use Rattle.pp_lines.specs.declared.fault.IoFault.{IoFault}
pub use Rattle.pp_lines.specs.declared.fault.IoFault.TheVariants.{ReadFailed, WriteFailed, LineLimit}
pub use Rattle.pp_console.specs.declared.progress.Progress.{Progress}
pub use Rattle.pp_console.specs.declared.progress.TheConstants.{KEPT, LINE_LIMIT, BYTE_LIMIT}
pub use Rattle.pp_console.specs.Commands.{State, Value, Performs}
unfoldable pub use Rattle.pp_console.specs.Script.{outcome, answer_line}
pub use Rattle.pp_console.specs.Serving.{Origin, Performed, Breaks, Serves, Stops, origin_of}
pub use Rattle.pp_console.specs.Inner.ServingSteps.{HasEnded, HasRead, Interrupts}
