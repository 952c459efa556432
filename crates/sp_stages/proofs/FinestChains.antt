-- The chains by leaders are the finest.
use Rattle.std.proofs.Common.{◌≡◌, ℕ, ◌<◌, ◌==◌, nat_le, nat_lt, not, ◌&&◌, ◌||◌, Bool, true, false, List, [], length, slice_index, refl, ap, sym, ◌∙◌, ⊎_elim, eq-eqb, eqb-true, leb-true, lt-ltb, arith}
use Rattle.std.specs.List.{list_all}
use Rattle.std.proofs.lemmas.Bool.{cases_lt, leb-false, le-ltb}
use Rattle.std.proofs.lemmas.List.{length-map}
use Rattle.sp_core.specs.declared.access.Meet.{Meet}
use Rattle.sp_core.specs.Elements.{numbers_below}
use Rattle.sp_core.specs.PlainCore.{PlainCounter, PlainCore}
use Rattle.sp_plan.specs.Slots.{StageRun, is_parallel_block, are_joined, is_chain_right, are_chains_right}
use Rattle.sp_stages.specs.Chains.{leads_in, chain_number, is_link, leaders, chains_of}
use Rattle.sp_stages.specs.Finest.{AreChains, AreInOne, HasEarlier, AreFinestChains}
use Rattle.sp_stages.proofs.Below.{and_parts, and_both, length-numbers, listed, all_at, all_from}
use Rattle.sp_stages.proofs.Counting.{count_below, count_grows, IsCounted, counted_at}
use Rattle.sp_stages.proofs.LeaderLaws.{AreLeaders, Keeps, leaders_are, linked_alike, leaders_keep}
use Rattle.sp_words.specs.declared.kind.Style.{Style}

rule_from : (le same equal joined : Bool) → (((not le && same) && joined) ≡ true → equal ≡ true) → (((le || not same) || equal) || not joined) ≡ true
rule_from true same equal joined h = refl
rule_from false false equal joined h = refl
rule_from false true true joined h = refl
rule_from false true false true h = h refl
rule_from false true false false h = refl

rule_to : (le same equal joined : Bool) → (((le || not same) || equal) || not joined) ≡ true → ((not le && same) && joined) ≡ true → equal ≡ true
rule_to true same equal joined h k = absurd (cc)
rule_to false false equal joined h k = absurd (cc)
rule_to false true true joined h k = refl
rule_to false true false true h k = h
rule_to false true false false h k = absurd (cc)

not_le_by : (p q : ℕ) (b : Bool) → nat_le q p ≡ b → nat_lt p q ≡ not b
not_le_by p q true e = le-ltb p q (leb-true q p e)
not_le_by p q false e = lt-ltb p q (leb-false q p e)

not_le : (p q : ℕ) → nat_lt p q ≡ not (nat_le q p)
not_le p q = not_le_by p q (nat_le q p) refl

module _ (core : PlainCore) (meets : List Meet) (counters : List PlainCounter) (style : Style) (owned : List ℕ) (runs : List StageRun) (slots : List ℕ) where
  abbrev slot : ℕ → ℕ
  slot p = slice_index slots p

  abbrev leader : ℕ → ℕ
  leader = leaders core meets (is_parallel_block counters style) runs slots

  abbrev link : ℕ → ℕ → Bool
  link = is_link core meets (is_parallel_block counters style) runs slots

  abbrev joined : ℕ → ℕ → Bool
  joined = are_joined runs slots [] core (is_parallel_block counters style) meets

  abbrev number : ℕ → ℕ
  number = chain_number slots leader

  abbrev ours : List ℕ
  ours = chains_of core meets counters style runs slots

  ours_at : (p : ℕ) → p < length runs → slice_index ours p ≡ number p
  ours_at p lt = listed number (length runs) p lt

  are_leaders : AreLeaders leader
  are_leaders = leaders_are link (length runs) (length runs)

  link_slots : (p q : ℕ) → link p q ≡ true → slot p ≡ slot q
  link_slots p q e = eqb-true (slot p) (slot q) (and_parts (nat_lt p q) (slot p == slot q) (and_parts (nat_lt p q && (slot p == slot q)) (joined p q) e).0).1

  slots_keep : Keeps slot leader
  slots_keep = leaders_keep link slot (length runs) (λ p q lp lq e. link_slots p q e) (length runs) (omega arith)

  same_number : (p q : ℕ) → leader p ≡ leader q → slot p ≡ slot q → number p ≡ number q
  same_number p q el es = ap (λ s. count_below (leads_in slots leader s) (leader p)) es ∙ ap (count_below (leads_in slots leader (slot q))) el

  linked_numbers : (p q : ℕ) → p < length runs → q < length runs → link p q ≡ true → slice_index ours p ≡ slice_index ours q
  linked_numbers p q lp lq e = ours_at p lp ∙ same_number p q (linked_alike link (length runs) (length runs) p q lp lq e) (link_slots p q e) ∙ sym (ours_at q lq)

  link_from : (p q : ℕ) → ((not (nat_le q p) && (slot p == slot q)) && joined p q) ≡ true → link p q ≡ true
  link_from p q e = ap (λ b. (b && (slot p == slot q)) && joined p q) (not_le p q) ∙ e

  right_at : (p q : ℕ) → p < length runs → q < length runs → is_chain_right runs slots ours core (is_parallel_block counters style) meets p q ≡ true
  right_at p q lp lq =
      rule_from (nat_le q p) (slot p == slot q) (slice_index ours p == slice_index ours q) (joined p q)
      (λ e. eq-eqb (slice_index ours p) (slice_index ours q) (linked_numbers p q lp lq (link_from p q e)))

  right : are_chains_right runs slots ours core counters style meets ≡ true
  right =
      all_from (λ p. list_all (is_chain_right runs slots ours core (is_parallel_block counters style) meets p) (numbers_below (length runs))) (length runs)
      (λ p lp. all_from (is_chain_right runs slots ours core (is_parallel_block counters style) meets p) (length runs) (λ q lq. right_at p q lp lq))

  others_linked : (others : List ℕ) → are_chains_right runs slots others core counters style meets ≡ true → (p q : ℕ) → p < length runs → q < length runs → link p q ≡ true → slice_index others p ≡ slice_index others q
  others_linked others h p q lp lq e =
      let row = all_at (λ k. list_all (is_chain_right runs slots others core (is_parallel_block counters style) meets k) (numbers_below (length runs))) (length runs) h p lp in
      let at = all_at (is_chain_right runs slots others core (is_parallel_block counters style) meets p) (length runs) row q lq in
      eqb-true (slice_index others p) (slice_index others q)
      (rule_to (nat_le q p) (slot p == slot q) (slice_index others p == slice_index others q) (joined p q) at
      (ap (λ b. (b && (slot p == slot q)) && joined p q) (sym (not_le p q)) ∙ e))

  others_keep : (others : List ℕ) → are_chains_right runs slots others core counters style meets ≡ true → Keeps (λ p. slice_index others p) leader
  others_keep others h = leaders_keep link (λ p. slice_index others p) (length runs) (others_linked others h) (length runs) (omega arith)

  leader_leads : (p q : ℕ) → slot p ≡ slot q → leads_in slots leader (slot q) (leader p) ≡ true
  leader_leads p q es =
      and_both (leader (leader p) == leader p) (slot (leader p) == slot q) (eq-eqb (leader (leader p)) (leader p) (are_leaders.leads p))
      (eq-eqb (slot (leader p)) (slot q) (slots_keep p ∙ es))

  not_less : (p q : ℕ) → slot p ≡ slot q → number p ≡ number q → leader p < leader q → ⊥
  not_less p q es en lt =
      let more = count_grows (leads_in slots leader (slot q)) (leader p) (leader q) lt (leader_leads p q es) in
      let same = ap (λ s. count_below (leads_in slots leader s) (leader p)) es in
      omega (arith, more, same, en)

  same_leader : (p q : ℕ) → slot p ≡ slot q → number p ≡ number q → leader p ≡ leader q
  same_leader p q es en = ⊎_elim (λ lt. absurd (not_less p q es en lt))
      (λ ge. ⊎_elim (λ lt. absurd (not_less q p (sym es) (sym en) lt)) (λ le. omega (arith, ge, le)) (cases_lt (leader q) (leader p)))
      (cases_lt (leader p) (leader q))

  finest_at : (others : List ℕ) → AreChains core meets counters style owned runs slots others → (p q : ℕ) → p < length runs → q < length runs → AreInOne core meets counters style owned runs slots ours p q → AreInOne core meets counters style owned runs slots others p q
  finest_at others h p q lp lq one =
      let keep = others_keep others h.right in
      let same = same_leader p q one.slot (sym (ours_at p lp) ∙ one.chain ∙ ours_at q lq) in
      record { slot = one.slot; chain = sym (keep p) ∙ ap (λ k. slice_index others k) same ∙ keep q }

  earlier_from : (p c : ℕ) → p < length runs → IsCounted (leads_in slots leader (slot p)) (leader p) c → HasEarlier core meets counters style owned runs slots ours p c
  earlier_from p c lp k =
      let least = are_leaders.least p in
      let before = k.below in
      let parts = and_parts (leader k.place == k.place) (slot k.place == slot p) k.found in
      let same = eqb-true (slot k.place) (slot p) parts.1 in
      record {
        place = k.place;
        earlier = omega (arith, least, before);
        slot = same;
        chain = ours_at k.place (omega (arith, least, before, lp))
            ∙ ap (λ s. count_below (leads_in slots leader s) (leader k.place)) same
            ∙ ap (count_below (leads_in slots leader (slot p))) (eqb-true (leader k.place) k.place parts.0) ∙ k.count;
      }

  pub chains_are_finest : AreFinestChains core meets counters style owned runs slots ours
  chains_are_finest = record {
    may_be = record { one_each = length-map (numbers_below (length runs)) number ∙ length-numbers (length runs); right = right };
    finest = finest_at;
    numbered = λ p c lp lt. earlier_from p c lp (counted_at (leads_in slots leader (slot p)) (leader p) c (let at = ours_at p lp in omega (arith, lt, at)));
  }
