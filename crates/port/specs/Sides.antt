-- Two laptops of document 01 and one wait (02, R-4).
use Rattle.std.specs.Prelude.{Bool, true, false, cond, not, Option, Some, None}
use Rattle.laptop.specs.State.{fresh_laptop}
use Rattle.laptop.specs.declared.Laptop.{Laptop}
use Rattle.laptop.specs.Step.{Step as LaptopAsStep}
use Rattle.messages.specs.declared.request.Request.{Request}
use Rattle.port.specs.declared.Own.{Own}
use Rattle.port.specs.declared.Port.{Port}
use Rattle.port.specs.declared.Side.{Side}
use Rattle.port.specs.declared.Side.TheVariants.{Partner, Cable}
use Rattle.port.specs.Step.{Step}

-- the request whose answer is awaited, with its side
abbrev pub Wait : Type 0
Wait = Option (Side × Request)

abbrev pub same_side : Side → Side → Bool
same_side Partner Partner = true
same_side Partner Cable = false
same_side Cable Partner = false
same_side Cable Cable = true

-- the other side's answer is awaited
abbrev pub is_others : Side → Wait → Bool
is_others side None = false
is_others side (Some (named, r)) = not (same_side named side)

-- to a side, what the other awaits is nothing
abbrev pub wait_seen : Side → Wait → Option Request
wait_seen side None = None
wait_seen side (Some (named, r)) = cond (same_side named side) (Some r) None

abbrev pub wait_named : Side → Option Request → Wait
wait_named side None = None
wait_named side (Some r) = Some (side, r)

-- what is awaited once a side awaits this; what the other awaits stays
abbrev pub wait_put : Side → Option Request → Wait → Wait
wait_put side after before = cond (is_others side before) before (wait_named side after)

abbrev pub own_of : Side → Port → Own
own_of Partner p = p.partner
own_of Cable p = p.cable

abbrev pub own_in : Laptop → Own
own_in l =
    record { candidate = l.candidate; gathered = l.gathered; stored = l.stored; pages = l.pages; held = l.held; edition = l.edition }

abbrev pub laptop_with : Option Request → Own → Laptop
laptop_with wait own =
    record {
      wait = wait;
      candidate = own.candidate;
      gathered = own.gathered;
      stored = own.stored;
      pages = own.pages;
      held = own.held;
      edition = own.edition;
    }

-- the laptop of 01 that a side sees
unfoldable pub seen : Side → Port → Laptop
seen side p = laptop_with (wait_seen side p.wait) (own_of side p)

-- the port once a side's laptop has become this one: nothing of the other side changes
abbrev pub with_own : Side → Wait → Own → Port → Port
with_own Partner wait own p = record { wait = wait; partner = own; cable = p.cable }
with_own Cable wait own p = record { wait = wait; partner = p.partner; cable = own }

unfoldable pub put_back : Side → Laptop → Port → Port
put_back side l p = with_own side (wait_put side l.wait p.wait) (own_in l) p

-- what a call of 01 on a side gave, as the port's
abbrev pub stepped_on : Side → Port → LaptopAsStep → Step
stepped_on side p s =
    record { refusal = s.refusal; length = s.length; told = s.told; side = side; port = put_back side s.laptop p }

-- nothing is awaited; on neither side is anything gathered or held
abbrev pub fresh_port : Port
fresh_port = record { wait = None; partner = own_in fresh_laptop; cable = own_in fresh_laptop }
