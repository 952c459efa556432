-- What a node owns is declared and isn't used outside.
use Rattle.std.proofs.Common.{◌≡◌, ℕ, Bool, true, false, ◌&&◌, ◌||◌, not, List, [], ◌∷◌, ◌++◌, length, refl, sym, ◌∙◌, ap, subst, inl, inr, nat_lt}
use Rattle.std.proofs.lemmas.Bool.{and_parts, and_from, true≢false, or_right}
use Rattle.std.proofs.lemmas.Bool.Decides.{eqb_tells}
use Rattle.sp_core.specs.Around.{Around, within, is_port_kind, is_usable}
use Rattle.sp_core.specs.Declarations.{mem, is_among}
use Rattle.sp_core.specs.NodeRules.{is_owned_once}
use Rattle.sp_core.specs.PlainCore.{PlainCounter, PlainCore}
use Rattle.sp_lane_rules.proofs.UnrolledPlaces.{among_both}

module _ (core : PlainCore) where
  -- a memory that is owned is declared, is no port, and is owned by nothing before
  pub record IsOwned (earlier : List ℕ) (m : ℕ) : Type 0 where
    pub declared : nat_lt m (length core.mems) ≡ true
    pub no_port : is_port_kind (mem core m).kind ≡ false
    pub new : is_among m earlier ≡ false

  pub each_owned : (earlier owned : List ℕ) → is_owned_once core earlier owned ≡ true → (m : ℕ) → is_among m owned ≡ true → IsOwned earlier m
  each_owned earlier [] e m i = absurd (true≢false (sym i))
  each_owned earlier (x ∷ owned) e m i =
      let a = and_parts ((nat_lt x (length core.mems) && not (is_port_kind (mem core x).kind)) && not (is_among x earlier)) (is_owned_once core (earlier ++ x ∷ []) owned) e in
      let b = and_parts (nat_lt x (length core.mems) && not (is_port_kind (mem core x).kind)) (not (is_among x earlier)) a.0 in
      let c = and_parts (nat_lt x (length core.mems)) (not (is_port_kind (mem core x).kind)) b.0 in
      elim (eqb_tells m x) [
        | inl same ↦ subst (IsOwned earlier) (sym same.1) (record { declared = c.0; no_port = negated (is_port_kind (mem core x).kind) c.1; new = negated (is_among x earlier) b.1 })
        | inr apart ↦
            let r : IsOwned (earlier ++ x ∷ []) m = each_owned (earlier ++ x ∷ []) owned a.1 m (sym (ap (λ b. b || is_among m owned) apart.0) ∙ i) in
            record { declared = r.declared; no_port = r.no_port; new = left (is_among m earlier) (is_among m (x ∷ [])) (sym (among_both m earlier (x ∷ [])) ∙ r.new) }
      ]
    where
      negated : (b : Bool) → not b ≡ true → b ≡ false
      negated true e = absurd (true≢false (sym e))
      negated false e = refl

      left : (a b : Bool) → (a || b) ≡ false → a ≡ false
      left true b e = absurd (true≢false e)
      left false b e = refl

  module _ (around : Around) (earlier : List ℕ) (before : (m : ℕ) → is_among m around.owned ≡ true → is_among m earlier ≡ true) where
    -- it isn't used outside
    pub not_outside : (m : ℕ) → IsOwned earlier m → is_usable core around m ≡ true → ⊥
    not_outside m h u =
        let a = and_parts (nat_lt m (length core.mems)) (is_port_kind (mem core m).kind || is_among m around.owned) u in
        true≢false (sym (before m (sym (ap (λ b. b || is_among m around.owned) h.no_port) ∙ a.1)) ∙ h.new)

    pub owned_apart : (owned : List ℕ) → is_owned_once core earlier owned ≡ true → (m : ℕ) → is_usable core around m ≡ true → is_among m owned ≡ false
    owned_apart owned e m u = by (is_among m owned) refl
      where
        by : (b : Bool) → is_among m owned ≡ b → b ≡ false
        by true i = absurd (not_outside m (each_owned earlier owned e m i) u)
        by false i = refl

    -- and may be used inside
    pub owned_inside : (counters : List PlainCounter) (owned : List ℕ) → is_owned_once core earlier owned ≡ true → (m : ℕ) → is_among m owned ≡ true → is_usable core (within around counters owned) m ≡ true
    owned_inside counters owned e m i =
        let h = each_owned earlier owned e m i in
        and_from (nat_lt m (length core.mems)) (is_port_kind (mem core m).kind || is_among m (owned ++ around.owned)) h.declared
        (or_right (is_port_kind (mem core m).kind) (is_among m (owned ++ around.owned)) (among_both m owned around.owned ∙ ap (λ b. b || is_among m around.owned) i))
