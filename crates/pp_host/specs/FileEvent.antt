-- The event that a host logs.
use Rattle.pp_lines.specs.declared.log.Log.{Log}
use Rattle.pp_host.specs.declared.file_log.FileEvent.{FileEvent}
use Rattle.pp_host.specs.declared.file_log.FileEvent.TheVariants as logged
use Rattle.pp_host.specs.Events.{Closed, Event, Missing, Opened}

abbrev pub event_of : FileEvent → Log → Event
event_of (logged.Opened kind) path = Opened kind path.bytes
event_of (logged.Missing kind) path = Missing kind path.bytes
event_of logged.Closed log = Closed log.bytes log.ended
