-- The refusal of each fault: its number, its word and its place.
use Rattle.hosts.specs.Refusal.{Refusal}
use Rattle.plate.specs.declared.fault.BeatFault as beat
use Rattle.plate.specs.declared.fault.BeatFault.TheVariants as beats
use Rattle.plate.specs.declared.fault.LayFault as lay
use Rattle.plate.specs.declared.fault.LayFault.TheVariants as lays
use Rattle.plate.specs.declared.fault.MapFault as map
use Rattle.plate.specs.declared.fault.MapFault.TheVariants as maps
use Rattle.plate.specs.declared.fault.ReadFault as read
use Rattle.plate.specs.declared.fault.ReadFault.TheVariants as reads
use Rattle.plate.specs.declared.fault.ShadowFault as shadow
use Rattle.plate.specs.declared.fault.ShadowFault.TheVariants as shadows
use Rattle.plate.specs.declared.fault.StrikeFault as strike
use Rattle.plate.specs.declared.fault.StrikeFault.TheVariants as strikes
use Rattle.plate.specs.BeatCall.{beat_refusal}
use Rattle.plate.specs.LayCall.{lay_refusal}
use Rattle.plate.specs.MapCall.{map_refusal}
use Rattle.plate.specs.ReadCall.{read_refusal}
use Rattle.plate.specs.ShadowCall.{shadow_refusal}
use Rattle.plate.specs.StrikeCall.{strike_refusal}

abbrev pub lay_fault : lay.LayFault → Refusal
lay_fault lays.Planes = lay_refusal 1 0
lay_fault lays.Side = lay_refusal 2 0
lay_fault lays.Tape = lay_refusal 3 0
lay_fault lays.Memory = lay_refusal 4 0
lay_fault (lays.Byte index) = lay_refusal 5 index

abbrev pub strike_fault : strike.StrikeFault → Refusal
strike_fault strikes.Bare = strike_refusal 6
strike_fault strikes.Plane = strike_refusal 7
strike_fault strikes.Place = strike_refusal 8
strike_fault strikes.Byte = strike_refusal 9

abbrev pub beat_fault : beat.BeatFault → Refusal
beat_fault beats.Bare = beat_refusal 6
beat_fault beats.Age = beat_refusal 10

abbrev pub read_fault : read.ReadFault → Refusal
read_fault reads.Bare = read_refusal 6 0
read_fault reads.Output = read_refusal 15 0
read_fault (reads.Majority plane) = read_refusal 16 plane

abbrev pub map_fault : map.MapFault → Refusal
map_fault maps.Bare = map_refusal 6
map_fault maps.Output = map_refusal 15

abbrev pub shadow_fault : shadow.ShadowFault → Refusal
shadow_fault shadows.Bare = shadow_refusal 6
shadow_fault shadows.Output = shadow_refusal 15
