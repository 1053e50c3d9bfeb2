-- Two results that a promise on pages allows are equal, call by call.
use mathlib.Core.Path.{◌≡◌}
use mathlib.Core.Bool.{Bool}
use mathlib.Core.List.{List}
use Prim.Native.Nat.{ℕ}
use lib.ListN.{take}
use Rattle.laws.proofs.Tight.{one_value}
use Rattle.pages.specs.Lists.{is_in, sound_list}
use Rattle.pages.specs.Pages.{page, is_last, shown_page}
use Rattle.pages.specs.declared.Page.{Page}

module _ (list : List ℕ) where
  pub make_page_only : (p : ℕ) (result other : Page) → result ≡ shown_page (page list p) → other ≡ shown_page (page list p) → result ≡ other
  make_page_only p result other = one_value

  pub is_last_only : (p : ℕ) (result other : Bool) → result ≡ is_last list p → other ≡ is_last list p → result ≡ other
  is_last_only p result other = one_value

  pub is_in_only : (svid : ℕ) (result other : Bool) → result ≡ is_in svid list → other ≡ is_in svid list → result ≡ other
  is_in_only svid result other = one_value

  pub sound_only : (result other : Bool) → result ≡ sound_list list → other ≡ sound_list list → result ≡ other
  sound_only result other = one_value

  pub first_svids_only : (n : ℕ) (result other : List ℕ) → result ≡ take n list → other ≡ take n list → result ≡ other
  first_svids_only n result other = one_value
