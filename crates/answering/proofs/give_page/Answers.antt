-- `give_page` meets its promise.
use mathlib.Core.Path.{◌≡◌, ap, sym, ◌∙◌}
use mathlib.Core.Bool.{true}
use mathlib.Core.List.{List}
use Prim.Native.Nat.{ℕ, ◌<◌}
use native.Mathlib.Omega.{arith}
use lib.ListN.{length, take}
use Rattle.std.proofs.lemmas.Grind.{common_steps}
use Rattle.messages.specs.Layout.{ack}
use Rattle.pages.specs.Pages.{page}
use Rattle.pages.proofs.Laws.{shown_objects}
use Rattle.dock.specs.Data.{listed}
use Rattle.dock.specs.Dock.{sends, reply, sending}
use Rattle.dock.proofs.Decisions.{page_none, page_given}
use Rattle.dock.proofs.Steps.{same}
use Rattle.answering.proofs.give_page.Goals as goal

pub returns-then-is_empty : goal.returns-then-is_empty
returns-then-is_empty c = let a = c.args in
    let list : c.first-list.result.now ≡ listed a.dock = c.first-list.ensures ∙ ap (λ (n : ℕ). take n a.dock.svids) c.from.ensures in
    let none : length (listed a.dock) ≡ 0 = sym (ap length list) ∙ grind (arith, common_steps) in
    same a.dock _ _ a.out.now _ _ (page_none a.dock a.request none) c.send_bare.ensures

pub returns : goal.returns
returns c = let a = c.args in
    let list : c.first-list.result.now ≡ listed a.dock = c.first-list.ensures ∙ ap (λ (n : ℕ). take n a.dock.svids) c.from.ensures in
    let some : 0 < length c.first-list.result.now = grind (arith, common_steps) in
    let made = shown_objects _ a.dock.page c.make_page-page.result c.make_page-page.ensures in
    let objects = c.first-objects.ensures ∙ ap (λ (n : ℕ). take n c.make_page-page.result.objects) c.from-2.ensures in
    let shown = objects ∙ made ∙ ap (λ (l : List ℕ). page l a.dock.page) list in
    same a.dock _ _ a.out.now _ _
    (page_given a.dock a.request (omega (arith, ap length list, some)) ∙ ap (λ (l : List ℕ). sends (reply a.request ack l) (sending true a.dock)) (sym shown))
    c.send.ensures
