-- `version_of` meets its promise.
use mathlib.Core.Path.{ap, sym}
use Prim.Native.Nat.{ℕ, ◌+◌, ◌*◌}
use Rattle.messages.specs.Editions.{major_of, minor_of}
use Rattle.messages.specs.declared.edition.Edition.{Edition}
use Rattle.writing.proofs.version_of.Goals as goal

unfoldable version : Edition → ℕ
version e = 32768 + major_of e * 8192 + minor_of e * 2048

pub returns-in-OneZero : goal.returns-in-OneZero
unfolding version
returns-in-OneZero c = sym (ap version c.in-OneZero.is)

pub returns-in-TwoZero : goal.returns-in-TwoZero
unfolding version
returns-in-TwoZero c = sym (ap version c.in-TwoZero.is)

pub returns-in-TwoOne : goal.returns-in-TwoOne
unfolding version
returns-in-TwoOne c = sym (ap version c.in-TwoOne.is)
