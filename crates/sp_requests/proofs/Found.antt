-- Accesses that are on at a bank.
use Rattle.std.proofs.Common.{◌≡◌, ℕ, ◌<◌, ◌==◌, Bool, true, false, ◌&&◌, List, [], ◌∷◌, length, slice_index_or, refl, sym, ap, ◌∙◌, arith, eqb-true, eq-eqb}
use Rattle.std.specs.List.{AllZip}
use Rattle.std.proofs.lemmas.Bool.{false≢true}
use Rattle.sp_bank.specs.Places.{IsInside, bank as bank_number, offset}
use Rattle.sp_netlist.specs.Draft.{Draft}
use Rattle.sp_netlist.specs.Signals.{Signals}
use Rattle.sp_gates.specs.Runs.{RunsOn}
use Rattle.sp_gates.specs.Tested.{is_on}
use Rattle.sp_access.specs.declared.access.Access.{Access}
use Rattle.sp_access.specs.Asking.{Agree}
use Rattle.sp_mem.specs.declared.part.Touch.{Touch}
use Rattle.sp_mem.specs.Copies.{copy_at}
use Rattle.sp_places.specs.declared.layout.Layout.{Layout}
use Rattle.sp_places.specs.Layouts.{IsLayout, banking_of}
use Rattle.sp_requests.specs.declared.part.Request.{Request}
use Rattle.sp_requests.specs.Requests.{IsRequest, Asks, is_for}
use Rattle.sp_requests.specs.Elements.{element_at, AreServed}
use Rattle.sp_requests.proofs.Zips.{zip_at, zip_long}

pub and_first : (a b : Bool) → (a && b) ≡ true → a ≡ true
and_first true b e = refl
and_first false b e = absurd (false≢true e)

pub and_second : (a b : Bool) → (a && b) ≡ true → b ≡ true
and_second true b e = e
and_second false b e = absurd (false≢true e)

pub and_all : (a b : Bool) → a ≡ true → b ≡ true → (a && b) ≡ true
and_all a b e f = rw e f

-- the access is enabled at the copy and the bank, and asks for the place of its element
pub record Found (s : Signals) (t copy bank : ℕ) (l : Layout) (touch : Touch) (a : Access) : Type 0 where
  pub enabled : is_on s touch.enable t ≡ true
  pub at_copy : copy_at s t touch.copy ≡ copy
  pub inside : IsInside l.dims.items (element_at s t touch)
  pub at_bank : bank_number (banking_of l) (element_at s t touch) ≡ bank
  pub place : s.net t a.place ≡ offset (banking_of l) l.dims.items (element_at s t touch)

module _ (d : Draft) (l : Layout) (s : Signals) (run : RunsOn s d.cells) (t copy bank : ℕ) where
  pub found : (touch : Touch) (r : Request) (a : Access) → IsRequest d l touch r → Asks s t copy bank r a → (is_on s touch.enable t ≡ true → IsInside l.dims.items (element_at s t touch))
      → is_on s a.on t ≡ true → Found s t copy bank l touch a
  found touch r a is asks within on =
      let wanted : is_for s t copy bank r ≡ true = sym asks.on ∙ on in
      let here : is_on s touch.enable t ≡ true = ap (λ n. is_on s n t) (sym is.enable) ∙ and_first _ _ wanted in
      let rest = and_second _ _ wanted in
      let number : s.net t r.copy ≡ copy = eqb-true _ _ (and_first _ _ rest) in
      let line : s.net t r.bank ≡ bank = eqb-true _ _ (and_second (s.net t r.copy == copy) _ rest) in
      record {
        enabled = here;
        at_copy = sym (is.copy s run t) ∙ number;
        inside = within here;
        at_bank = sym (is.spot.bank s run t (within here)) ∙ line;
        place = ap (s.net t) asks.place ∙ is.spot.place s run t (within here);
      }

  -- and the other way round
  pub is_asked_for : (touch : Touch) (r : Request) (a : Access) → IsRequest d l touch r → Asks s t copy bank r a → is_on s touch.enable t ≡ true → copy_at s t touch.copy ≡ copy
      → IsInside l.dims.items (element_at s t touch) → bank_number (banking_of l) (element_at s t touch) ≡ bank → is_on s a.on t ≡ true
  is_asked_for touch r a is asks enabled at inside line =
      asks.on
      ∙ and_all _ _ (ap (λ n. is_on s n t) is.enable ∙ enabled)
      (and_all _ _ (eq-eqb (s.net t r.copy) copy (is.copy s run t ∙ at)) (eq-eqb (s.net t r.bank) bank (is.spot.bank s run t inside ∙ line)))

  agreeing : (w : Touch) (q : Request) (touches : List Touch) (rs : List Request) (es : List Access) → AllZip (IsRequest d l) touches rs → AllZip (Asks s t copy bank) rs es → AreServed s t l touches → Agree s t es
  agreeing w q touches rs es is asks served i k a li lk on_i on_k =
      let first = zip_long (IsRequest d l) touches rs is in
      let second = zip_long (Asks s t copy bank) rs es asks in
      let below : i < length touches = omega (arith, first, second, li) in
      let under : k < length touches = omega (arith, first, second, lk) in
      let f = found (slice_index_or touches i w) (slice_index_or rs i q) (slice_index_or es i a) (zip_at (IsRequest d l) touches rs i w q is below) (zip_at (Asks s t copy bank) rs es i q a asks (omega (arith, first, below))) (served.inside i w below) on_i in
      let g = found (slice_index_or touches k w) (slice_index_or rs k q) (slice_index_or es k a) (zip_at (IsRequest d l) touches rs k w q is under) (zip_at (Asks s t copy bank) rs es k q a asks (omega (arith, first, under))) (served.inside k w under) on_k in
      f.place
      ∙ ap (offset (banking_of l) l.dims.items) (served.together i k w below under f.enabled g.enabled (f.at_copy ∙ sym g.at_copy) (f.at_bank ∙ sym g.at_bank))
      ∙ sym g.place

pub agree : (d : Draft) (l : Layout) (s : Signals) → IsLayout l → RunsOn s d.cells → (t copy bank : ℕ) (touches : List Touch) (rs : List Request) (es : List Access)
    → AllZip (IsRequest d l) touches rs → AllZip (Asks s t copy bank) rs es → AreServed s t l touches → Agree s t es
agree d l s layout run t copy bank [] [] [] is asks served = λ i k a li. absurd (omega (arith, li))
agree d l s layout run t copy bank [] [] (e ∷ es) is asks served = absurd asks
agree d l s layout run t copy bank [] (r ∷ rs) es is asks served = absurd is
agree d l s layout run t copy bank (w ∷ ws) [] es is asks served = absurd is
agree d l s layout run t copy bank (w ∷ ws) (r ∷ rs) es is asks served = agreeing d l s run t copy bank w r (w ∷ ws) (r ∷ rs) es is asks served
