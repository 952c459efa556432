-- What is written at an element's place.
use Rattle.std.proofs.Common.{◌≡◌, ℕ, suc, ◌==◌, Bool, true, false, ◌&&◌, if◌then◌else◌, List, [], ◌∷◌, map, All, refl, sym, ap, ◌∙◌, arith, eqb-true, eq-eqb}
use Rattle.std.specs.List.{AllZip}
use Rattle.std.proofs.lemmas.Bool.{false≢true}
use Rattle.sp_bank.specs.Places.{IsInside, bank as bank_number, offset}
use Rattle.sp_bank.proofs.Distinct.{same_element}
use Rattle.sp_netlist.specs.Draft.{Draft}
use Rattle.sp_netlist.specs.Signals.{Signals}
use Rattle.sp_gates.specs.Runs.{RunsOn}
use Rattle.sp_gates.specs.Tested.{is_on}
use Rattle.sp_access.specs.declared.access.Access.{Access}
use Rattle.sp_access.specs.Asking.{put}
use Rattle.sp_mem.specs.declared.part.Touch.{Touch}
use Rattle.sp_mem.specs.Copies.{is_at}
use Rattle.sp_places.specs.declared.layout.Layout.{Layout}
use Rattle.sp_places.specs.Layouts.{IsLayout, banking_of}
use Rattle.sp_requests.specs.declared.part.Request.{Request}
use Rattle.sp_requests.specs.Requests.{IsRequest, Asks}
use Rattle.sp_requests.specs.Elements.{are_same, element_at, element_after, AreServed}
use Rattle.sp_requests.proofs.Found.{and_first, and_second, and_all, found, is_asked_for}

pub same_indices : (xs ys : List ℕ) → are_same xs ys ≡ true → xs ≡ ys
same_indices [] [] e = refl
same_indices [] (y ∷ ys) e = absurd (false≢true e)
same_indices (x ∷ xs) [] e = absurd (false≢true e)
same_indices (x ∷ xs) (y ∷ ys) e = ap (λ z. z ∷ xs) (eqb-true x y (and_first _ _ e)) ∙ ap (λ zs. y ∷ zs) (same_indices xs ys (and_second (x == y) _ e))

pub same_itself : (xs : List ℕ) → are_same xs xs ≡ true
same_itself [] = refl
same_itself (x ∷ xs) = and_all _ _ (eq-eqb x x refl) (same_itself xs)

two_tests : (a b : Bool) → (a ≡ true → b ≡ true) → (b ≡ true → a ≡ true) → a ≡ b
two_tests true b f g = sym (f refl)
two_tests false true f g = g refl
two_tests false false f g = refl

chosen : (a b : Bool) (x y old : ℕ) → a ≡ b → x ≡ y → (if a then x else old) ≡ (if b then y else old)
chosen a b x y old e f = rw (e, f) refl

module _ (d : Draft) (l : Layout) (s : Signals) (layout : IsLayout l) (run : RunsOn s d.cells) (t copy bank : ℕ) (x : List ℕ) (x_inside : IsInside l.dims.items x) (x_bank : bank_number (banking_of l) x ≡ bank) where
  same_test : (touch : Touch) (r : Request) (a : Access) → IsRequest d l touch r → Asks s t copy bank r a → (is_on s touch.enable t ≡ true → IsInside l.dims.items (element_at s t touch))
      → (is_on s a.on t && (s.net t a.place == offset (banking_of l) l.dims.items x)) ≡ (is_at s t touch.enable touch.copy copy && are_same (element_at s t touch) x)
  same_test touch r a is asks within = two_tests _ _ there back
    where
      there : (is_on s a.on t && (s.net t a.place == offset (banking_of l) l.dims.items x)) ≡ true → (is_at s t touch.enable touch.copy copy && are_same (element_at s t touch) x) ≡ true
      there e =
          let f = found d l s run t copy bank touch r a is asks within (and_first _ _ e) in
          let place : offset (banking_of l) l.dims.items (element_at s t touch) ≡ offset (banking_of l) l.dims.items x = sym f.place ∙ eqb-true _ _ (and_second (is_on s a.on t) _ e) in
          let same : element_at s t touch ≡ x = same_element (banking_of l) l.dims.items (element_at s t touch) x layout.space layout.rank f.inside x_inside (f.at_bank ∙ sym x_bank) place in
          and_all _ _ (and_all _ _ f.enabled (eq-eqb _ copy f.at_copy)) (ap (λ z. are_same z x) same ∙ same_itself x)

      back : (is_at s t touch.enable touch.copy copy && are_same (element_at s t touch) x) ≡ true → (is_on s a.on t && (s.net t a.place == offset (banking_of l) l.dims.items x)) ≡ true
      back e =
          let at = and_first (is_at s t touch.enable touch.copy copy) _ e in
          let enabled = and_first (is_on s touch.enable t) _ at in
          let number = eqb-true _ _ (and_second (is_on s touch.enable t) _ at) in
          let same : element_at s t touch ≡ x = same_indices _ x (and_second (is_at s t touch.enable touch.copy copy) _ e) in
          let line = ap (bank_number (banking_of l)) same ∙ x_bank in
          let on = is_asked_for d l s run t copy bank touch r a is asks enabled number (within enabled) line in
          let f = found d l s run t copy bank touch r a is asks within on in
          and_all _ _ on (eq-eqb _ _ (f.place ∙ ap (offset (banking_of l) l.dims.items) same))

  pub written : (touches : List Touch) (rs : List Request) (es : List Access) → AllZip (IsRequest d l) touches rs → AllZip (Asks s t copy bank) rs es
      → All (λ a. is_on s a.enable t ≡ true → IsInside l.dims.items (element_at s t a)) touches → (old : ℕ)
      → put s t es (map (λ r. r.word) rs) (offset (banking_of l) l.dims.items x) old ≡ element_after s t copy touches x old
  written [] [] [] is asks within old = refl
  written [] [] (e ∷ es) is asks within old = absurd asks
  written [] (r ∷ rs) es is asks within old = absurd is
  written (w ∷ ws) [] es is asks within old = absurd is
  written (w ∷ ws) (r ∷ rs) [] is asks within old = absurd asks
  written (w ∷ ws) (r ∷ rs) (e ∷ es) is asks within old =
      written ws rs es is.1 asks.1 (λ k y m. within (suc k) y (omega (arith, m))) (if is_on s e.on t && (s.net t e.place == offset (banking_of l) l.dims.items x) then s.net t r.word else old)
      ∙ ap (element_after s t copy ws x) (chosen _ _ _ _ old (same_test w r e is.0 asks.0 (within 0 w (omega arith))) (ap (s.net t) is.0.word))

pub writes : (d : Draft) (l : Layout) (s : Signals) → IsLayout l → RunsOn s d.cells → (t copy bank : ℕ) (touches : List Touch) (rs : List Request) (es : List Access)
    → AllZip (IsRequest d l) touches rs → AllZip (Asks s t copy bank) rs es → AreServed s t l touches
    → (x : List ℕ) → IsInside l.dims.items x → bank_number (banking_of l) x ≡ bank → (old : ℕ)
    → put s t es (map (λ r. r.word) rs) (offset (banking_of l) l.dims.items x) old ≡ element_after s t copy touches x old
writes d l s layout run t copy bank touches rs es is asks served x inside line old = written d l s layout run t copy bank x inside line touches rs es is asks served.inside old
