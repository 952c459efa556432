-- Lists of sources, as what they stand for.
use Rattle.std.proofs.Common.{◌≡◌, ◌<◌, ◌≢◌, ℕ, true, false, List, [], ◌∷◌, ◌++◌, zero, suc, length, get_or, set, refl, sym, ◌∙◌, ap, ⊎_elim}
use mathlib.Core.Path.{fun_ext}
use Rattle.std.proofs.lemmas.Bool.{cases_eq, eq-eqb, ne_eqb}
use Rattle.std.proofs.lemmas.List.{get_or-set_same, get_or-set_other}
use Rattle.sp_core.specs.Store.{changed}
use Rattle.sp_sugar.specs.Values as plain
use Rattle.sp_operations.specs.declared.sources.Source.{Source}
use Rattle.sp_operations.specs.declared.sources.Source.TheVariants.{Constant}
use Rattle.sp_operations.specs.Sources.{plain_source, sources_of}

-- the default at the end changes nothing
get_or_more : {A : Type 0} (xs : List A) (d : A) (k : ℕ) → get_or (xs ++ d ∷ []) k d ≡ get_or xs k d
get_or_more [] d zero = refl
get_or_more [] d (suc k) = refl
get_or_more (x ∷ xs) d zero = refl
get_or_more (x ∷ xs) d (suc k) = get_or_more xs d k

pub more_sources : (xs : List Source) → sources_of (xs ++ Constant 0 ∷ []) ≡ sources_of xs
unfolding sources_of
more_sources xs = fun_ext (λ k. ap plain_source (get_or_more xs (Constant 0) k))

-- an entry that is changed
pub set_sources : (xs : List Source) (m : ℕ) (s : Source) → m < length xs → sources_of (set xs m s) ≡ changed (sources_of xs) m (plain_source s)
unfolding sources_of
set_sources xs m s l = fun_ext (λ k. ⊎_elim (λ e. same k e) (λ n. other k n) (cases_eq k m))
  where
    same : (k : ℕ) → k ≡ m → sources_of (set xs m s) k ≡ changed (sources_of xs) m (plain_source s) k
    same k e = ap (λ j. plain_source (get_or (set xs m s) j (Constant 0))) e ∙ ap plain_source (get_or-set_same xs m s (Constant 0) l)
        ∙ sym (ap (λ b. elim b as (λ _. plain.Source) [ true ↦ plain_source s | false ↦ sources_of xs k ]) (eq-eqb k m e))

    other : (k : ℕ) → k ≢ m → sources_of (set xs m s) k ≡ changed (sources_of xs) m (plain_source s) k
    other k n = ap plain_source (get_or-set_other xs m k s (Constant 0) n)
        ∙ sym (ap (λ b. elim b as (λ _. plain.Source) [ true ↦ plain_source s | false ↦ sources_of xs k ]) (ne_eqb k m n))

pub no_source : sources_of [] ≡ plain.no_sources
unfolding sources_of
no_source = refl
