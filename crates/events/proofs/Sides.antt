-- The side that a kind says, and the kind without it.
use mathlib.Core.Path.{◌≡◌}
use Prim.Native.Nat.{ℕ, ◌-◌, ◌<◌, ◌≤◌}
use borrow.Author.Tests.{le-leb, lt-leb}
use Rattle.port.specs.declared.Side.TheVariants.{Partner, Cable}
use Rattle.events.specs.Events.{says_side, side_of, without_side, is_known}

pub side_partner : (kind : ℕ) → kind < 128 → side_of kind ≡ Partner
unfolding side_of
side_partner kind h = rw (lt-leb 128 kind h)

pub side_cable : (kind : ℕ) → 128 ≤ kind → side_of kind ≡ Cable
unfolding side_of
side_cable kind h = rw (le-leb 128 kind h)

pub without_partner : (kind : ℕ) → kind < 128 → without_side kind ≡ kind
unfolding without_side
without_partner kind h = rw (lt-leb 128 kind h)

pub without_cable : (kind : ℕ) → 128 ≤ kind → without_side kind ≡ kind - 128
unfolding without_side
without_cable kind h = rw (le-leb 128 kind h)

pub known_cable : (kind : ℕ) → 128 ≤ kind → is_known kind ≡ says_side (without_side kind)
unfolding is_known
known_cable kind h = rw (le-leb 128 kind h)
