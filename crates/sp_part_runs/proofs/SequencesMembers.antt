-- Members of a chain, one after the other.
use Rattle.std.proofs.Common.{◌≡◌, ℕ, zero, suc, ◌+◌, ◌≤◌, ◌⊎◌, inl, inr, Bool, true, false, ◌&&◌, not, refl, sym, ap, subst, ◌∙◌, arith, List, [], ◌∷◌, length, Option, Some, None}
use Rattle.std.specs.List.{Contains}
use Rattle.std.proofs.lemmas.Bool.{and_parts, and_from, or_left, or_right}
use Rattle.sp_netlist.specs.Signals.{Signals}
use Rattle.sp_gates.specs.Tested.{is_on}
use Rattle.sp_part_runs.specs.BodiesRuns.{IsOnAt}
use Rattle.sp_part_runs.specs.ControlParts.{Ran, Begins, Ends, DoesRuns}
use Rattle.sp_sequence.specs.declared.part.Member.{Member}
use Rattle.sp_sequence.specs.Members.{after, goes, is_past, is_over, chain_over, AreStarted}
use Rattle.sp_part_runs.specs.SequencesChains.{Numbered, At, turn, child_runs, SaysWanted, MemberDoes, MemberBegins}
use Rattle.sp_part_runs.specs.SequencesRuns.{MemberRan, member_took}
use Rattle.sp_part_runs.proofs.SequencesCycles.{no_element, here, there, one_of, either, was_not, is_not, at_same, after_on}

took_wanted : (m : MemberRan) (b : Bool) → m.wanted ≡ b → member_took m ≡ elim b [ true ↦ m.took | false ↦ 2 ]
took_wanted m b e = ap (λ (x : Bool). elim x as (λ _. ℕ) [ true ↦ m.took | false ↦ 2 ]) e

module _ {R : Type 0} (told : R → ℕ) (found : R → MemberRan) where
  abbrev child_of : R → Ran
  child_of r = record { cycle = suc (told r); took = (found r).took }

  in_children : (runs : List R) (r : R) → Contains runs r → (found r).wanted ≡ true → Contains (child_runs told found runs) (child_of r)
  in_children [] r c w = absurd (no_element r c)
  in_children (q ∷ runs) r (zero, l, e) w = subst (λ x. Contains (child_runs told found (q ∷ runs)) (child_of x)) e (by (found q).wanted (ap (λ x. (found x).wanted) e ∙ w))
    where
      by : (b : Bool) → b ≡ true → Contains (elim b as (λ _. List Ran) [ true ↦ child_of q ∷ child_runs told found runs | false ↦ child_runs told found runs ]) (child_of q)
      by true f = here (child_of q) (child_runs told found runs)
      by false f = absurd (cc)
  in_children (q ∷ runs) r (suc i, l, e) w = by (found q).wanted (in_children runs r (i, omega (arith, l), e) w)
    where
      by : (b : Bool) → Contains (child_runs told found runs) (child_of r) → Contains (elim b as (λ _. List Ran) [ true ↦ child_of q ∷ child_runs told found runs | false ↦ child_runs told found runs ]) (child_of r)
      by true c = there (child_of q) (child_of r) (child_runs told found runs) c
      by false c = c

  child_in : (runs : List R) (x : Ran) → Contains (child_runs told found runs) x → (r : R) × Contains runs r × ((found r).wanted ≡ true) × (child_of r ≡ x)
  child_in [] x c = absurd (no_element x c)
  child_in (q ∷ runs) x c = by (found q).wanted refl c (child_in runs x)
    where
      later : ((r : R) × Contains runs r × ((found r).wanted ≡ true) × (child_of r ≡ x)) → (r : R) × Contains (q ∷ runs) r × ((found r).wanted ≡ true) × (child_of r ≡ x)
      later (r, c, t, e) = (r, there q r runs c, t, e)

      by : (b : Bool) → (found q).wanted ≡ b → Contains (elim b as (λ _. List Ran) [ true ↦ child_of q ∷ child_runs told found runs | false ↦ child_runs told found runs ]) x
          → (Contains (child_runs told found runs) x → (r : R) × Contains runs r × ((found r).wanted ≡ true) × (child_of r ≡ x)) → (r : R) × Contains (q ∷ runs) r × ((found r).wanted ≡ true) × (child_of r ≡ x)
      by true f (zero, l, e) rest = (q, here q runs, f, e)
      by true f (suc i, l, e) rest = later (rest (i, omega (arith, l), e))
      by false f d rest = later (rest d)

  module _ (s : Signals) (cause : ℕ → Bool) (runs : List R) (last : ℕ) (begins : IsOnAt cause (At told runs) last) (start done : ℕ) where
    -- the cycles in which the turn of a member is told that is wanted
    abbrev Wants : (t : ℕ) → Type 0
    Wants t = (r : R) × Contains runs r × ((found r).wanted ≡ true) × (t ≡ told r)

    go_right : (w : Option ℕ) → SaysWanted s w told found runs last → IsOnAt (goes s cause w) Wants last
    go_right None says = record { on = λ t l (r, c, f, e). begins.on t l (r, c, e); only = λ t l h. let x = begins.only t l h in let e = x.2 in (x.0, x.1, says x.0 x.1 (omega (arith, e, l)), x.2) }
    go_right (Some w) says = record {
      on = λ t l (r, c, f, e). and_from (cause t) (is_on s w t) (begins.on t l (r, c, e)) (ap (is_on s w) e ∙ says r c (omega (arith, e, l)) ∙ f);
      only = λ t l h. let p = and_parts (cause t) (is_on s w t) h in let x = begins.only t l p.0 in let e = x.2 in (x.0, x.1, sym (says x.0 x.1 (omega (arith, e, l))) ∙ sym (ap (is_on s w) e) ∙ p.1, x.2);
    }

    module _ (w : Option ℕ) (says : SaysWanted s w told found runs last) (starts : (t : ℕ) → is_on s start t ≡ after (goes s cause w) t) (does : DoesRuns (is_on s start) (is_on s done) (child_runs told found runs) last) where
      start_right : IsOnAt (is_on s start) (Begins (child_runs told found runs)) last
      start_right =
          after_on (is_on s start) (goes s cause w) (Begins (child_runs told found runs)) Wants last starts (go_right w says)
          (λ (x, i, e). let q = child_in runs x i in let f = ap (λ (r : Ran). r.cycle) q.3 in omega (arith, e, f))
          (λ c (x, i, e). let q = child_in runs x i in let f = ap (λ (r : Ran). r.cycle) q.3 in (q.0, q.1, q.2, omega (arith, e, f)))
          (λ c (r, i, f, e). (child_of r, in_children runs r i f, ap suc e))

      done_right : IsOnAt (is_on s done) (Ends (child_runs told found runs)) last
      done_right = does last (omega arith) start_right

      is_done : (r : R) (t : ℕ) → Contains runs r → (found r).wanted ≡ true → t ≤ last → t ≡ told r + member_took (found r) → is_on s done t ≡ true
      is_done r t c f l e = let g = took_wanted (found r) true f in done_right.on t l (child_of r, in_children runs r c f, omega (arith, e, g))

      was_done : (t : ℕ) → t ≤ last → is_on s done t ≡ true → At (λ r. told r + member_took (found r)) runs t
      was_done t l h =
          let x = done_right.only t l h in
          let q = child_in runs x.0 x.1 in
          let f = ap (λ (r : Ran). r.cycle) q.3 in
          let k = ap (λ (r : Ran). r.took) q.3 in
          let g = took_wanted (found q.0) true q.2 in
          let e = x.2 in
          (q.0, q.1, omega (arith, e, f, g, k))

    over_right : (w : Option ℕ) → SaysWanted s w told found runs last → ((t : ℕ) → is_on s start t ≡ after (goes s cause w) t) → DoesRuns (is_on s start) (is_on s done) (child_runs told found runs) last
        → IsOnAt (is_past s cause done w) (At (λ r. told r + member_took (found r)) runs) last
    over_right None says starts does = record {
      on = λ t l (r, c, e). is_done None says starts does r t c (says r c (omega (arith, e, l))) l e;
      only = λ t l h. was_done None says starts does t l h;
    }
    over_right (Some w) says starts does = record { on = λ t l (r, c, e). on t l r c e (either (found r).wanted); only = λ t l h. only t l (one_of (is_on s done t) (after (after (λ u. cause u && not (is_on s w u))) t) h) }
      where
        on : (t : ℕ) → t ≤ last → (r : R) → Contains runs r → t ≡ told r + member_took (found r) → ((found r).wanted ≡ true) ⊎ ((found r).wanted ≡ false) → is_past s cause done (Some w) t ≡ true
        on t l r c e (inl f) = or_left (is_on s done t) (after (after (λ u. cause u && not (is_on s w u))) t) (is_done (Some w) says starts does r t c f l e)
        on t l r c e (inr f) =
            let g = took_wanted (found r) false f in
            let now : t ≡ suc (suc (told r)) = omega (arith, e, g) in
            or_right (is_on s done t) (after (after (λ u. cause u && not (is_on s w u))) t)
            (ap (after (after (λ u. cause u && not (is_on s w u)))) now ∙ and_from (cause (told r)) (not (is_on s w (told r))) (begins.on (told r) (omega (arith, now, l)) (r, c, refl)) (is_not (is_on s w (told r)) (says r c (omega (arith, now, l)) ∙ f)))

        passed : (t : ℕ) → t ≤ last → after (after (λ u. cause u && not (is_on s w u))) t ≡ true → At (λ r. told r + member_took (found r)) runs t
        passed zero l h = absurd (cc)
        passed (suc zero) l h = absurd (cc)
        passed (suc (suc u)) l h =
            let p = and_parts (cause u) (not (is_on s w u)) h in
            let x = begins.only u (omega (arith, l)) p.0 in
            let e = x.2 in
            let f = sym (says x.0 x.1 (omega (arith, e, l))) ∙ sym (ap (is_on s w) e) ∙ was_not (is_on s w u) p.1 in
            let g = took_wanted (found x.0) false f in
            (x.0, x.1, omega (arith, e, g))

        only : (t : ℕ) → t ≤ last → (is_on s done t ≡ true) ⊎ (after (after (λ u. cause u && not (is_on s w u))) t ≡ true) → At (λ r. told r + member_took (found r)) runs t
        only t l (inl h) = was_done (Some w) says starts does t l h
        only t l (inr h) = passed t l h

-- a whole chain, from a member on
module _ {R : Type 0} (s : Signals) (first : R → ℕ) (found : R → (member : ℕ) → MemberRan) (runs : List R) (last : ℕ) where
  pub record ChainRight (i : ℕ) (members : List Member) (over : ℕ → Bool) : Type 0 where
    pub starts : Numbered (λ i m. MemberBegins s (turn first found i) (λ r. found r i) runs last m) i members
    pub ends : IsOnAt over (At (turn first found (i + length members)) runs) last

  pub chain_right : (members : List Member) (i : ℕ) (cause : ℕ → Bool) → IsOnAt cause (At (turn first found i) runs) last → AreStarted s cause members → Numbered (λ i m. MemberDoes s (turn first found i) (λ r. found r i) runs last m) i members
      → ChainRight i members (chain_over s cause members)
  chain_right [] i cause begins starts does = record { starts = tt; ends = at_same cause (turn first found i) (turn first found (i + 0)) runs last (λ r. ap (λ n. turn first found n r) (omega arith)) begins }
  chain_right (m ∷ members) i cause begins starts does =
      let over = over_right (turn first found i) (λ r. found r i) s cause runs last begins m.child.start m.child.done m.wanted does.0.wanted starts.0 does.0.child in
      let rest = chain_right members (suc i) (is_over s cause m) (at_same (is_over s cause m) (λ r. turn first found i r + member_took (found r i)) (turn first found (suc i)) runs last (λ r. omega arith) over) starts.1 does.1 in
      record {
        starts = (start_right (turn first found i) (λ r. found r i) s cause runs last begins m.child.start m.child.done m.wanted does.0.wanted starts.0 does.0.child, rest.starts);
        ends = at_same (chain_over s (is_over s cause m) members) (turn first found (suc i + length members)) (turn first found (i + length (m ∷ members))) runs last (λ r. ap (λ n. turn first found n r) (omega arith)) rest.ends;
      }
