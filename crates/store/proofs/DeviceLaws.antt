-- Pages: what was settled stays, whatever a stop leaves of writes to other pages.
use Rattle.table.specs.Device.{all_written}
use Rattle.table.proofs.DeviceLaws.{left_else}
use Rattle.store.specs.Promise.{SettledStays}

pub settled_stays : SettledStays
settled_stays d qs cs k h = left_else (all_written d.pages d.queue) qs cs k h
