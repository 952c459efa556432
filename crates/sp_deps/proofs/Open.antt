-- Where two accesses touch one element, the class of the groups between them isn't ruled out.
use Rattle.std.proofs.Common.{◌≡◌, ℕ, suc, ◌+◌, ◌-◌, ◌≤◌, Bool, true, false, not, ◌&&◌, ℤ, pos, neg_ℤ, ◌+ℤ◌, ◌-ℤ◌, ◌*ℤ◌, List, [], ◌∷◌, ◌++◌, length, take, drop, refl, ap, sym, ◌∙◌, arith, length-take-le, length-drop}
use Rattle.std.specs.Prelude.{◌||◌, Option, Some, None, nat_eq}
use Rattle.std.specs.List.{All}
use Rattle.std.specs.Option.{option_eq}
use Rattle.std.proofs.lemmas.Int.{ints}
use Rattle.sp_affine.specs.Affine.{Affine, dot, value_of, symbol_value}
use Rattle.sp_affine.specs.Equality.{Decides-option_eq}
use Rattle.sp_deps.specs.declared.access.LoopRange.{LoopRange}
use Rattle.sp_deps.specs.declared.class.Class.{Class}
use Rattle.sp_deps.specs.declared.class.Class.TheVariants.{Same, Steps, Earlier}
use Rattle.sp_deps.specs.Classes.{Loops, outside, own_first, own_second, last_step, of_outside, of_inside, of_common, of_own, inside_of, terms_of, constant_of, is_ruled_out, is_open, have_same_symbols, same_symbol, may_meet}
use Rattle.sp_deps.specs.Groups.{HaveValues, AreOneElement, TouchOne, HaveLength}
use Rattle.sp_deps.proofs.Reaching.{Reaches, reach_append, reached_may_be}
use Rattle.sp_deps.proofs.Sound.{dot_append, reach_outside, reach_shared, reach_first, reach_second, lengths_of_values, Along, Jumps}

-- the parts of a form's coefficients, where it has one for each counter
module _ (common own : List LoopRange) (o cs : List ℤ) where
  outer_length : length cs ≡ length o + (length common + length own) → length o ≡ length cs - (length common + length own)
  outer_length e = omega arith

  length_outside : length cs ≡ length o + (length common + length own) → length (of_outside common own cs) ≡ length o
  length_outside e =
      let small : length cs - (length common + length own) ≤ length cs = omega arith in
      length-take-le _ cs small ∙ sym (outer_length e)

  length_inside : length cs ≡ length o + (length common + length own) → length (of_inside common own cs) ≡ length common + length own
  length_inside e = omega (arith, e, length-drop (length cs - (length common + length own)) cs)

  length_common : length cs ≡ length o + (length common + length own) → length (of_common common own cs) ≡ length common
  length_common e =
      let all = length_inside e in
      let small : length common ≤ length (of_inside common own cs) = omega (arith, all) in
      length-take-le _ (of_inside common own cs) small

  length_own : length cs ≡ length o + (length common + length own) → length (of_own common own cs) ≡ length own
  length_own e = omega (arith, length_inside e, length-drop (length common) (of_inside common own cs))

  split_value : (x u : List ℤ) → length cs ≡ length o + (length common + length own) → length x ≡ length common →
      dot cs (o ++ (x ++ u)) ≡ dot (of_outside common own cs) o +ℤ (dot (of_common common own cs) x +ℤ dot (of_own common own cs) u)
  split_value x u e f =
      dot_append cs o (x ++ u)
      ∙ ap (λ n. dot (take n cs) o +ℤ dot (drop n cs) (x ++ u)) (outer_length e)
      ∙ ap (λ z. dot (of_outside common own cs) o +ℤ z) (dot_append (of_inside common own cs) x u
      ∙ ap (λ m. dot (take m (of_inside common own cs)) x +ℤ dot (drop m (of_inside common own cs)) u) f)

-- two indices at values of the counters: those outside, those of the loop, and each access's own
pub record Setting (loops : Loops) (f g : Affine) (o x y u v : List ℤ) (symbols : ℕ → ℤ) : Type 0 where
  pub first_length : length f.coefs ≡ length o + (length loops.common + length loops.first)
  pub second_length : length g.coefs ≡ length o + (length loops.common + length loops.second)
  pub x_length : length x ≡ length loops.common
  pub y_length : length y ≡ length loops.common
  pub first_own : HaveValues loops.first u
  pub second_own : HaveValues loops.second v
  pub symbol : f.symbol ≡ g.symbol
  pub equal : value_of f (o ++ (x ++ u)) symbols ≡ value_of g (o ++ (y ++ v)) symbols

module _ (loops : Loops) (f g : Affine) (o x y u v : List ℤ) (symbols : ℕ → ℤ) (s : Setting loops f g o x y u v symbols) where
  f_common : List ℤ
  f_common = of_common loops.common loops.first f.coefs

  g_common : List ℤ
  g_common = of_common loops.common loops.second g.coefs

  -- by what the terms of the loop's counters come to
  opened : (class : Class) (far z : ℤ) → Reaches (inside_of class (of_common loops.common loops.first f.coefs) (of_common loops.common loops.second g.coefs) loops.common) z →
      z ≡ (dot (of_common loops.common loops.second g.coefs) y -ℤ far) -ℤ dot (of_common loops.common loops.first f.coefs) x →
      constant_of loops f g class ≡ (g.constant -ℤ f.constant) +ℤ far → is_ruled_out loops f g class ≡ false
  opened class far z r e h =
      let fo = of_outside loops.common loops.first f.coefs in
      let go = of_outside loops.common loops.second g.coefs in
      let fw = of_own loops.common loops.first f.coefs in
      let gw = of_own loops.common loops.second g.coefs in
      let outer = reach_outside fo go o (length_outside loops.common loops.first o f.coefs s.first_length) (length_outside loops.common loops.second o g.coefs s.second_length) in
      let own_f = reach_first fw u loops.first (length_own loops.common loops.first o f.coefs s.first_length ∙ sym (lengths_of_values loops.first u s.first_own)) s.first_own in
      let own_g = reach_second gw v loops.second (length_own loops.common loops.second o g.coefs s.second_length ∙ sym (lengths_of_values loops.second v s.second_own)) s.second_own in
      let own = reach_append (own_first fw loops.first) (own_second gw loops.second) _ _ _ own_f own_g refl in
      let inner = reach_append (inside_of class (of_common loops.common loops.first f.coefs) (of_common loops.common loops.second g.coefs) loops.common) _ z _ _ r own refl in
      let equal = balanced (dot f.coefs (o ++ (x ++ u))) (dot g.coefs (o ++ (y ++ v))) (symbol_value f.symbol symbols) (symbol_value g.symbol symbols) s.equal (ap (λ n. symbol_value n symbols) s.symbol) in
      let total = summed _ _ _ _ _ _ _ _ z _ far (split_value loops.common loops.first o f.coefs x u s.first_length s.x_length) (split_value loops.common loops.second o g.coefs y v s.second_length s.y_length) equal e h in
      closed (reached_may_be (terms_of loops f g class) _ (reach_append (outside fo go) _ _ _ _ outer inner total))
    where
      balanced : (a b p q : ℤ) → (a +ℤ f.constant) +ℤ p ≡ (b +ℤ g.constant) +ℤ q → p ≡ q → a -ℤ b ≡ g.constant -ℤ f.constant
      balanced a b p q e h = omega (arith, ints)

      summed : (a b fo fc fw go gc gw z c far : ℤ) → a ≡ fo +ℤ (fc +ℤ fw) → b ≡ go +ℤ (gc +ℤ gw) → a -ℤ b ≡ g.constant -ℤ f.constant →
          z ≡ (gc -ℤ far) -ℤ fc → c ≡ (g.constant -ℤ f.constant) +ℤ far → neg_ℤ c ≡ (go -ℤ fo) +ℤ (z +ℤ (neg_ℤ fw +ℤ gw))
      summed a b fo fc fw go gc gw z c far e h i j k = omega (arith, ints)

      closed : {b : Bool} → b ≡ true → not b ≡ false
      closed e = ap not e

  pub open_steps : (k : ℕ) → Along loops.common x y k → HaveValues loops.common x → is_ruled_out loops f g (Steps k) ≡ false
  open_steps k a hx =
      opened (Steps k) (last_step (of_common loops.common loops.second g.coefs) loops.common *ℤ pos k) _
      (reach_shared (of_common loops.common loops.first f.coefs) (of_common loops.common loops.second g.coefs) x loops.common
      (length_common loops.common loops.first o f.coefs s.first_length ∙ sym s.x_length) (length_common loops.common loops.second o g.coefs s.second_length ∙ sym s.x_length) hx)
      (less _ _ _ (dot (of_common loops.common loops.first f.coefs) x) (a (of_common loops.common loops.second g.coefs) (length_common loops.common loops.second o g.coefs s.second_length))) refl
    where
      less : (p q r t : ℤ) → q ≡ p +ℤ r → p -ℤ t ≡ (q -ℤ r) -ℤ t
      less p q r t e = omega (arith, ints)

  pub open_earlier : (i : ℕ) → Jumps i loops.common x y → is_ruled_out loops f g (Earlier i) ≡ false
  open_earlier i j =
      opened (Earlier i) (pos 0) _
      (j (of_common loops.common loops.first f.coefs) (of_common loops.common loops.second g.coefs) (length_common loops.common loops.first o f.coefs s.first_length) (length_common loops.common loops.second o g.coefs s.second_length))
      (less (dot (of_common loops.common loops.second g.coefs) y) (dot (of_common loops.common loops.first f.coefs) x)) (more _)
    where
      less : (p t : ℤ) → p -ℤ t ≡ (p -ℤ pos 0) -ℤ t
      less p t = omega (arith, ints)

      more : (p : ℤ) → p ≡ p +ℤ pos 0
      more p = omega (arith, ints)

  pub open_same : x ≡ y → is_ruled_out loops f g Same ≡ false
  open_same e =
      opened Same (pos 0) _
      (reach_outside (of_common loops.common loops.first f.coefs) (of_common loops.common loops.second g.coefs) x
      (length_common loops.common loops.first o f.coefs s.first_length ∙ sym s.x_length) (length_common loops.common loops.second o g.coefs s.second_length ∙ sym s.x_length))
      (ap (λ w. dot (of_common loops.common loops.second g.coefs) w -ℤ dot (of_common loops.common loops.first f.coefs) x) e ∙ less (dot (of_common loops.common loops.second g.coefs) y) (dot (of_common loops.common loops.first f.coefs) x)) (more _)
    where
      less : (p t : ℤ) → p -ℤ t ≡ (p -ℤ pos 0) -ℤ t
      less p t = omega (arith, ints)

      more : (p : ℤ) → p ≡ p +ℤ pos 0
      more p = omega (arith, ints)

-- index by index
module _ (loops : Loops) (class : Class) (o x y u v : List ℤ) (symbols : ℕ → ℤ) where
  abbrev pub Opens : Type 0
  Opens = (f g : Affine) → Setting loops f g o x y u v symbols → is_ruled_out loops f g class ≡ false

  abbrev pub Values : Type 0
  Values = (length x ≡ length loops.common) × (length y ≡ length loops.common) × HaveValues loops.first u × HaveValues loops.second v

  same_symbols : (p q : Option ℕ) → option_eq nat_eq p q ≡ true → p ≡ q
  same_symbols p q h = (Decides-option_eq p q).0 h

  all_open : (fs gs : List Affine) → Opens → Values →
      All (λ f. length f.coefs ≡ length o + (length loops.common + length loops.first)) fs → All (λ g. length g.coefs ≡ length o + (length loops.common + length loops.second)) gs →
      have_same_symbols fs gs ≡ true → AreOneElement fs gs (o ++ (x ++ u)) (o ++ (y ++ v)) symbols → is_open loops class fs gs ≡ true
  all_open [] gs w vs m n s e = refl
  all_open (f ∷ fs) [] w vs m n s e = refl
  all_open (f ∷ fs) (g ∷ gs) w (lx, ly, hu, hv) m n s (e, es) =
      let both = split_and (same_symbol f g) (have_same_symbols fs gs) s in
      let setting : Setting loops f g o x y u v symbols = record {
        first_length = m 0 f (omega arith);
        second_length = n 0 g (omega arith);
        x_length = lx;
        y_length = ly;
        first_own = hu;
        second_own = hv;
        symbol = same_symbols f.symbol g.symbol both.0;
        equal = e;
      } in
      joined _ _ (w f g setting) (all_open fs gs w (lx, ly, hu, hv) (λ i d h. m (suc i) d (omega arith)) (λ i d h. n (suc i) d (omega arith)) both.1 es)
    where
      split_and : (a b : Bool) → (a && b) ≡ true → (a ≡ true) × (b ≡ true)
      split_and true b h = (refl, h)
      split_and false b h = (h, absurd (no h))
        where
          no : false ≡ true → ⊥
          no e = cc

      joined : (a b : Bool) → a ≡ false → b ≡ true → (not a && b) ≡ true
      joined a b e h = ap (λ z. not z && b) e ∙ h

  kept : (fs gs : List Affine) → (have_same_symbols fs gs ≡ true → is_open loops class fs gs ≡ true) → may_meet loops class (Some fs) (Some gs) ≡ true
  kept fs gs h = by_symbols (have_same_symbols fs gs) (is_open loops class fs gs) h
    where
      by_symbols : (a b : Bool) → (a ≡ true → b ≡ true) → (not a || b) ≡ true
      by_symbols true b h = h refl
      by_symbols false b h = refl

  pub never_out : (first second : Option (List Affine)) → Opens → Values →
      HaveLength (length o + (length loops.common + length loops.first)) first → HaveLength (length o + (length loops.common + length loops.second)) second →
      TouchOne first second (o ++ (x ++ u)) (o ++ (y ++ v)) symbols → may_meet loops class first second ≡ true
  never_out None second w vs m n e = refl
  never_out (Some fs) None w vs m n e = refl
  never_out (Some fs) (Some gs) w vs m n e = kept fs gs (λ s. all_open fs gs w vs m n s e)
