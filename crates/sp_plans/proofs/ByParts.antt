-- A plan is valid exactly where its nodes and its memories are right, one by one.
use Rattle.std.proofs.Common.{◌≡◌, ℕ, ◌<◌, ◌↔◌, true, false, List, length, Option, Some, None, refl, sym, ap, ◌∙◌, subst, ⊎_elim, eq-eqb, arith}
use Rattle.std.proofs.lemmas.Bool.{and_parts, and_from, eqb-true, cases_lt}
use Rattle.std.proofs.lemmas.List.{get_or_past, length-map}
use Rattle.std.specs.Prelude.{◌&&◌, slice_index_or}
use Rattle.sp_bank.specs.Banking.{Banking}
use Rattle.sp_core.specs.declared.access.Meet.{Meet}
use Rattle.sp_core.specs.Forms.{PlainForms}
use Rattle.sp_core.specs.Invariant.{IsCore}
use Rattle.sp_core.specs.PlainCore.{PlainCore}
use Rattle.sp_depths.specs.Laws.{DepthsAreRight}
use Rattle.sp_plan.specs.Copies.{duplicates, is_single, is_duplicated}
use Rattle.sp_plan.specs.Nodes.{Site, site_at, keeps_at}
use Rattle.sp_plan.specs.PlainPlan.{PlainMemPlan, PlainPlan, mem_plan}
use Rattle.sp_plan.specs.Validity.{fits_scheme, schemes_of, is_scheme_right, kind_rule, time_rule, slot_rule, IsValid}
use Rattle.sp_plans.proofs.AloneBanks.{separated_alone, grouped_alone}
use Rattle.sp_plans.proofs.ExactDepths.{exact_depth}
use Rattle.sp_plans.proofs.FromSites.{from_sites, at_sites}
use Rattle.sp_plans.specs.Parts.{Serves, IsServed, node_rules, IsMemRight, IsRightByParts}
use Rattle.sp_schemes.proofs.Bodies.{all_below, below_all}
use Rattle.sp_schemes.proofs.Joint.{scheme_in, separated_by_all, grouped_by_all}

nothing_else : {A : Type 0} (b : A) (P : Type 0) → None ≡ Some b → P
nothing_else b P e = absurd (cc)

module _ (core : PlainCore) (forms : PlainForms) (meets : List Meet) (plan : PlainPlan) where
  kind_in : (k : ℕ) (site : Option Site) → keeps_at (node_rules core forms meets plan) k site ≡ true → keeps_at (kind_rule core forms meets plan) k site ≡ true
  kind_in k None e = refl
  kind_in k (Some s) e = (and_parts (kind_rule core forms meets plan k s.number s.streamed s.node) (time_rule core forms meets plan k s.number s.streamed s.node && slot_rule core forms meets plan k s.number s.streamed s.node) e).0

  others_in : (k : ℕ) (s : Site) → node_rules core forms meets plan k s.number s.streamed s.node ≡ true → (time_rule core forms meets plan k s.number s.streamed s.node ≡ true) × (slot_rule core forms meets plan k s.number s.streamed s.node ≡ true)
  others_in k s e =
      and_parts (time_rule core forms meets plan k s.number s.streamed s.node) (slot_rule core forms meets plan k s.number s.streamed s.node)
      (and_parts (kind_rule core forms meets plan k s.number s.streamed s.node) (time_rule core forms meets plan k s.number s.streamed s.node && slot_rule core forms meets plan k s.number s.streamed s.node) e).1

  time_in : (k : ℕ) (site : Option Site) → keeps_at (node_rules core forms meets plan) k site ≡ true → keeps_at (time_rule core forms meets plan) k site ≡ true
  time_in k None e = refl
  time_in k (Some s) e = (others_in k s e).0

  slot_in : (k : ℕ) (site : Option Site) → keeps_at (node_rules core forms meets plan) k site ≡ true → keeps_at (slot_rule core forms meets plan) k site ≡ true
  slot_in k None e = refl
  slot_in k (Some s) e = (others_in k s e).1

  all_in : (k : ℕ) (site : Option Site) → keeps_at (kind_rule core forms meets plan) k site ≡ true → keeps_at (time_rule core forms meets plan) k site ≡ true → keeps_at (slot_rule core forms meets plan) k site ≡ true → keeps_at (node_rules core forms meets plan) k site ≡ true
  all_in k None a b c = refl
  all_in k (Some s) a b c =
      and_from (kind_rule core forms meets plan k s.number s.streamed s.node) (time_rule core forms meets plan k s.number s.streamed s.node && slot_rule core forms meets plan k s.number s.streamed s.node) a
      (and_from (time_rule core forms meets plan k s.number s.streamed s.node) (slot_rule core forms meets plan k s.number s.streamed s.node) b c)

  fits : (m : ℕ) (x : Option Banking) → IsServed core forms m x → fits_scheme core m x ≡ true
  fits m None h = refl
  fits m (Some b) h = h.fits

  module _ (h : IsRightByParts core forms meets plan) where
    served : (m : ℕ) (b : Banking) → slice_index_or (schemes_of plan) m None ≡ Some b → Serves core forms m b
    served m b e = ⊎_elim
        (λ lt. subst (IsServed core forms m) (scheme_in plan.mems m ∙ e) (h.each_mem m lt).scheme)
        (λ ge. nothing_else b (Serves core forms m b) (sym (get_or_past (schemes_of plan) m None (omega (arith, ge, h.memories, length-map plan.mems (λ (x : PlainMemPlan). x.scheme)))) ∙ e))
        (cases_lt m (length core.mems))

    pub from_parts : DepthsAreRight → IsCore core → IsValid core forms meets plan
    from_parts depths_right ok =
        let copies = depths_right core forms meets plan ok (λ m lt. (h.each_mem m lt).depth) in
        record {
          memories = h.memories;
          nodes = h.nodes;
          kinds = from_sites (kind_rule core forms meets plan) core.root (λ k lt. kind_in k (site_at k 0 false core.root) (h.each_node k lt));
          schemes = below_all (is_scheme_right core forms meets plan) (length core.mems) (λ m lt. fits m (mem_plan plan m).scheme (h.each_mem m lt).scheme);
          groups = grouped_by_all core forms meets plan 0 0 false core.root (λ m b e. (served m b e).grouped);
          separated = separated_by_all core forms (schemes_of plan) 0 core.root (λ m b e. (served m b e).separated);
          times = from_sites (time_rule core forms meets plan) core.root (λ k lt. time_in k (site_at k 0 false core.root) (h.each_node k lt));
          slots = from_sites (slot_rule core forms meets plan) core.root (λ k lt. slot_in k (site_at k 0 false core.root) (h.each_node k lt));
          copied = copies.copied;
          single = copies.single;
          duplicated = below_all (is_duplicated core plan) (length core.mems) (λ m lt. eq-eqb (mem_plan plan m).duplicates (duplicates core m) (h.each_mem m lt).duplicates);
        }

  module _ (v : IsValid core forms meets plan) where
    serves : (m : ℕ) → m < length core.mems → (x : Option Banking) → (mem_plan plan m).scheme ≡ x → IsServed core forms m x
    serves m lt None e = tt
    serves m lt (Some b) e =
        let is = sym (scheme_in plan.mems m) ∙ e in
        record {
          fits = ap (fits_scheme core m) (sym e) ∙ all_below (is_scheme_right core forms meets plan) (length core.mems) v.schemes m lt;
          grouped = grouped_alone core forms meets plan m b is v.groups;
          separated = separated_alone core forms (schemes_of plan) m b is 0 core.root v.separated;
        }

    mem_right : (m : ℕ) → m < length core.mems → IsMemRight core forms meets plan m
    mem_right m lt = record {
      scheme = serves m lt (mem_plan plan m).scheme refl;
      depth = exact_depth core forms meets plan m v.copied (all_below (is_single core plan) (length core.mems) v.single m lt);
      duplicates = eqb-true (mem_plan plan m).duplicates (duplicates core m) (all_below (is_duplicated core plan) (length core.mems) v.duplicated m lt);
    }

    pub to_parts : IsRightByParts core forms meets plan
    to_parts = record {
      memories = v.memories;
      nodes = v.nodes;
      each_node = λ k lt. all_in k (site_at k 0 false core.root) (at_sites (kind_rule core forms meets plan) core.root v.kinds k) (at_sites (time_rule core forms meets plan) core.root v.times k) (at_sites (slot_rule core forms meets plan) core.root v.slots k);
      each_mem = mem_right;
    }

  pub by_parts : DepthsAreRight → IsCore core → IsValid core forms meets plan ↔ IsRightByParts core forms meets plan
  by_parts depths_right ok = (to_parts, λ h. from_parts h depths_right ok)
