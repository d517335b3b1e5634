-- The fault of a report that a fault of the map is.
use Rattle.plate.specs.declared.fault.MapFault as map
use Rattle.plate.specs.declared.fault.MapFault.TheVariants as maps
use Rattle.reports.specs.declared.fault.ReportFault.{ReportFault}
use Rattle.reports.specs.declared.fault.ReportFault.TheVariants.{Bare, Output}

abbrev pub from_map : map.MapFault → ReportFault
from_map maps.Bare = Bare
from_map maps.Output = Output
