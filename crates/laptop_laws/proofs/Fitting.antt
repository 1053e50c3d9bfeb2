-- A message that fits what is awaited answers just that request.
use mathlib.Core.Path.{◌≡◌, ap}
use mathlib.Core.Bool.{true, false≢true}
use Rattle.messages.specs.Requests.{request_of}
use Rattle.messages.specs.declared.Head.{Head}
use Rattle.messages.proofs.Requests.{same_is}
use Rattle.hearing.specs.Hearing.{fits}
use Rattle.std.specs.Prelude.{Option, Some, None}
use Rattle.messages.specs.declared.request.Request.{Request}

pub fits_is : (w : Option Request) (h : Head) → fits w h ≡ true → w ≡ Some (request_of h)
fits_is None h e = absurd (false≢true e)
fits_is (Some r) h e = ap Some (same_is r (request_of h) e)
