-- What owners do to some memories, by the nets of these; put together of the parts of a node.
use Rattle.std.proofs.Common.{◌≡◌, ℕ, ◌≤◌, true, ◌⊎◌, inl, inr, List, [], ◌++◌, refl, sym, subst}
use Rattle.std.specs.List.{Contains}
use Rattle.std.proofs.lemmas.List.Elements.{Contains-append_left, Contains-append_right, Contains-append_cases}
use Rattle.sp_netlist.specs.Signals.{Signals}
use Rattle.sp_gates.specs.Tested.{is_on}
use Rattle.sp_core.specs.Declarations.{is_among}
use Rattle.sp_core.specs.PlainCore.{PlainCore}
use Rattle.sp_machine.specs.Stamps.{Stamped}
use Rattle.sp_mem.specs.Copies.{copy_at}
use Rattle.sp_node_runs.proofs.BodiesListed.{none_there}
use Rattle.sp_tree_events.specs.OwnersOwning.{renewed, kept, Shows, OwnAgree}
use Rattle.sp_tree_handed.specs.declared.owners.Keeping.{Keeping}
use Rattle.sp_tree_handed.specs.declared.owners.Renewal.{Renewal}
use Rattle.sp_owner_runs.specs.Acting.{IsRenewed, IsKept}
use Rattle.sp_owner_runs.specs.Deeds.{CountsFresh}
use Rattle.sp_owner_runs.proofs.Among.{among_left, among_right, among_one}

module _ (core : PlainCore) (s : Signals) (t : ℕ) where
  -- up to a cycle: those of the nets are done to these memories, and all that is done to these memories is one of them
  pub record ActOn (events : List Stamped) (os : List ℕ) (renewals : List Renewal) (keepings : List Keeping) : Type 0 where
    pub renews : (r : Renewal) (u : ℕ) → Contains renewals r → u ≤ t → is_on s r.first u ≡ true → (is_among r.mem os ≡ true) × Shows events u (copy_at s u r.copy) (renewed r.mem)
    pub keeps : (k : Keeping) (u : ℕ) → Contains keepings k → u ≤ t → is_on s k.done u ≡ true → (is_among k.mem os ≡ true) × Shows events u (copy_at s u k.copy) (kept k.mem (s.net u k.word))
    pub all_renewals : (u c m : ℕ) → u ≤ t → is_among m os ≡ true → CountsFresh core m → Shows events u c (renewed m) → IsRenewed s u m c renewals
    pub all_keepings : (u c m v : ℕ) → u ≤ t → is_among m os ≡ true → Shows events u c (kept m v) → IsKept s u m c keepings v

  -- to no memory nothing is done
  pub on_none : (events : List Stamped) → ((m : ℕ) → is_among m [] ≡ true → ⊥) → ActOn events [] [] []
  on_none events none = record {
    renews = λ r u there le on. absurd (none_there r there);
    keeps = λ k u there le on. absurd (none_there k there);
    all_renewals = λ u c m le own counts shown. absurd (none m own);
    all_keepings = λ u c m v le own shown. absurd (none m own);
  }

  -- what is done to memories in a part is done so in the whole, where both agree on them
  pub of_part : (whole part : List Stamped) (os : List ℕ) (renewals : List Renewal) (keepings : List Keeping) → ((m : ℕ) → is_among m os ≡ true → OwnAgree whole part m) → ActOn part os renewals keepings → ActOn whole os renewals keepings
  of_part whole part os renewals keepings agree h = record {
    renews = λ r u there le on. (let x = h.renews r u there le on in (x.0, (agree r.mem x.0 u (copy_at s u r.copy) (renewed r.mem) refl).1 x.1));
    keeps = λ k u there le on. (let x = h.keeps k u there le on in (x.0, (agree k.mem x.0 u (copy_at s u k.copy) (kept k.mem (s.net u k.word)) refl).1 x.1));
    all_renewals = λ u c m le own counts shown. h.all_renewals u c m le own counts ((agree m own u c (renewed m) refl).0 shown);
    all_keepings = λ u c m v le own shown. h.all_keepings u c m v le own ((agree m own u c (kept m v) refl).0 shown);
  }

  -- of lists that are other ones
  pub are_those : (events : List Stamped) (os : List ℕ) (renewals others : List Renewal) (keepings other_keepings : List Keeping) → renewals ≡ others → keepings ≡ other_keepings → ActOn events os others other_keepings → ActOn events os renewals keepings
  are_those events os renewals others keepings other_keepings same kept_same h = subst (λ rs. ActOn events os rs keepings) (sym same) (subst (λ ks. ActOn events os others ks) (sym kept_same) h)

  module _ (events : List Stamped) (os more : List ℕ) (renewals rest : List Renewal) (keepings kept_rest : List Keeping) (one : ActOn events os renewals keepings) (other : ActOn events more rest kept_rest) where
    renewed_left : (u m c : ℕ) → IsRenewed s u m c renewals → IsRenewed s u m c (renewals ++ rest)
    renewed_left u m c x = (x.0, Contains-append_left renewals rest x.0 x.1, x.2, x.3, x.4)

    renewed_right : (u m c : ℕ) → IsRenewed s u m c rest → IsRenewed s u m c (renewals ++ rest)
    renewed_right u m c x = (x.0, Contains-append_right renewals rest x.0 x.1, x.2, x.3, x.4)

    kept_left : (u m c v : ℕ) → IsKept s u m c keepings v → IsKept s u m c (keepings ++ kept_rest) v
    kept_left u m c v x = (x.0, Contains-append_left keepings kept_rest x.0 x.1, x.2, x.3, x.4, x.5)

    kept_right : (u m c v : ℕ) → IsKept s u m c kept_rest v → IsKept s u m c (keepings ++ kept_rest) v
    kept_right u m c v x = (x.0, Contains-append_right keepings kept_rest x.0 x.1, x.2, x.3, x.4, x.5)

    both_renew : (r : Renewal) (u : ℕ) → Contains (renewals ++ rest) r → u ≤ t → is_on s r.first u ≡ true → (is_among r.mem (os ++ more) ≡ true) × Shows events u (copy_at s u r.copy) (renewed r.mem)
    both_renew r u there le on = by (Contains-append_cases renewals rest r there)
      where
        by : Contains renewals r ⊎ Contains rest r → (is_among r.mem (os ++ more) ≡ true) × Shows events u (copy_at s u r.copy) (renewed r.mem)
        by (inl c) = let x = one.renews r u c le on in (among_left r.mem os more x.0, x.1)
        by (inr c) = let x = other.renews r u c le on in (among_right r.mem os more x.0, x.1)

    both_keep : (k : Keeping) (u : ℕ) → Contains (keepings ++ kept_rest) k → u ≤ t → is_on s k.done u ≡ true → (is_among k.mem (os ++ more) ≡ true) × Shows events u (copy_at s u k.copy) (kept k.mem (s.net u k.word))
    both_keep k u there le on = by (Contains-append_cases keepings kept_rest k there)
      where
        by : Contains keepings k ⊎ Contains kept_rest k → (is_among k.mem (os ++ more) ≡ true) × Shows events u (copy_at s u k.copy) (kept k.mem (s.net u k.word))
        by (inl c) = let x = one.keeps k u c le on in (among_left k.mem os more x.0, x.1)
        by (inr c) = let x = other.keeps k u c le on in (among_right k.mem os more x.0, x.1)

    both_renewed : (u c m : ℕ) → u ≤ t → is_among m (os ++ more) ≡ true → CountsFresh core m → Shows events u c (renewed m) → IsRenewed s u m c (renewals ++ rest)
    both_renewed u c m le own counts shown = by (among_one m os more own)
      where
        by : (is_among m os ≡ true) ⊎ (is_among m more ≡ true) → IsRenewed s u m c (renewals ++ rest)
        by (inl q) = renewed_left u m c (one.all_renewals u c m le q counts shown)
        by (inr q) = renewed_right u m c (other.all_renewals u c m le q counts shown)

    both_kept : (u c m v : ℕ) → u ≤ t → is_among m (os ++ more) ≡ true → Shows events u c (kept m v) → IsKept s u m c (keepings ++ kept_rest) v
    both_kept u c m v le own shown = by (among_one m os more own)
      where
        by : (is_among m os ≡ true) ⊎ (is_among m more ≡ true) → IsKept s u m c (keepings ++ kept_rest) v
        by (inl q) = kept_left u m c v (one.all_keepings u c m v le q shown)
        by (inr q) = kept_right u m c v (other.all_keepings u c m v le q shown)

    -- to the memories of both
    pub both : ActOn events (os ++ more) (renewals ++ rest) (keepings ++ kept_rest)
    both = record { renews = both_renew; keeps = both_keep; all_renewals = both_renewed; all_keepings = both_kept }
