-- The refusal tells the fault: its number and its place give the fault back.
use Rattle.std.proofs.Common.{◌≡◌, cond, eqb, sym, refl, ap, ◌∙◌}
use Rattle.hosts.specs.Refusal.{Refusal}
use Rattle.plate.specs.declared.fault.BeatFault.{BeatFault}
use Rattle.plate.specs.declared.fault.BeatFault.TheVariants as beats
use Rattle.plate.specs.declared.fault.LayFault.{LayFault}
use Rattle.plate.specs.declared.fault.LayFault.TheVariants as lays
use Rattle.plate.specs.declared.fault.MapFault.{MapFault}
use Rattle.plate.specs.declared.fault.MapFault.TheVariants as maps
use Rattle.plate.specs.declared.fault.ReadFault.{ReadFault}
use Rattle.plate.specs.declared.fault.ReadFault.TheVariants as reads
use Rattle.plate.specs.declared.fault.ShadowFault.{ShadowFault}
use Rattle.plate.specs.declared.fault.ShadowFault.TheVariants as shadows
use Rattle.plate.specs.declared.fault.StrikeFault.{StrikeFault}
use Rattle.plate.specs.declared.fault.StrikeFault.TheVariants as strikes
use Rattle.plate.specs.Faults.{beat_fault, lay_fault, map_fault, read_fault, shadow_fault, strike_fault}
use Rattle.plate.specs.Pins.{FaultsPin}

-- A map that can be undone takes no two to one.
pub undone : {X Y : Type 0} (f : X → Y) (back : Y → X) → ((x : X) → back (f x) ≡ x) → (x y : X) → f x ≡ f y → x ≡ y
undone f back undoes x y e = sym (undoes x) ∙ ap back e ∙ undoes y

lay_back : Refusal → LayFault
lay_back r =
    cond (eqb r.number 1) lays.Planes
    (cond (eqb r.number 2) lays.Side
    (cond (eqb r.number 3) lays.Tape
    (cond (eqb r.number 4) lays.Memory (lays.Byte r.place))))

lay_undone : (e : LayFault) → lay_back (lay_fault e) ≡ e
unfolding lay_back
lay_undone lays.Planes = refl
lay_undone lays.Side = refl
lay_undone lays.Tape = refl
lay_undone lays.Memory = refl
lay_undone (lays.Byte index) = refl

strike_back : Refusal → StrikeFault
strike_back r =
    cond (eqb r.number 6) strikes.Bare (cond (eqb r.number 7) strikes.Plane (cond (eqb r.number 8) strikes.Place strikes.Byte))

strike_undone : (e : StrikeFault) → strike_back (strike_fault e) ≡ e
unfolding strike_back
strike_undone strikes.Bare = refl
strike_undone strikes.Plane = refl
strike_undone strikes.Place = refl
strike_undone strikes.Byte = refl

beat_back : Refusal → BeatFault
beat_back r = cond (eqb r.number 6) beats.Bare beats.Age

beat_undone : (e : BeatFault) → beat_back (beat_fault e) ≡ e
unfolding beat_back
beat_undone beats.Bare = refl
beat_undone beats.Age = refl

read_back : Refusal → ReadFault
read_back r = cond (eqb r.number 6) reads.Bare (cond (eqb r.number 15) reads.Output (reads.Majority r.place))

read_undone : (e : ReadFault) → read_back (read_fault e) ≡ e
unfolding read_back
read_undone reads.Bare = refl
read_undone reads.Output = refl
read_undone (reads.Majority plane) = refl

map_back : Refusal → MapFault
map_back r = cond (eqb r.number 6) maps.Bare maps.Output

map_undone : (e : MapFault) → map_back (map_fault e) ≡ e
unfolding map_back
map_undone maps.Bare = refl
map_undone maps.Output = refl

shadow_back : Refusal → ShadowFault
shadow_back r = cond (eqb r.number 6) shadows.Bare shadows.Output

shadow_undone : (e : ShadowFault) → shadow_back (shadow_fault e) ≡ e
unfolding shadow_back
shadow_undone shadows.Bare = refl
shadow_undone shadows.Output = refl

pub faults_pin : FaultsPin
faults_pin = record {
  lay = undone lay_fault lay_back lay_undone;
  strike = undone strike_fault strike_back strike_undone;
  beat = undone beat_fault beat_back beat_undone;
  read = undone read_fault read_back read_undone;
  map = undone map_fault map_back map_undone;
  shadow = undone shadow_fault shadow_back shadow_undone;
}
