-- Places in a run at which symbols are kept, and how that is put together.
use Rattle.std.proofs.Common.{◌≡◌, ℕ, suc, ◌+◌, ◌≤◌, ◌<◌, Bool, true, false, List, [], ◌∷◌, ◌++◌, length, refl, sym, ap, subst, ◌∙◌, arith, append_assoc, length-append}
use Rattle.std.specs.List.{All}
use Rattle.std.proofs.lemmas.List.Elements.{All-head, All-tail}
use Rattle.sp_core.specs.Declarations.{kind_of, is_among}
use Rattle.sp_core.specs.Events.{At, When, Standing, Moment, touches, slices, renews, keeps, inside_at}
use Rattle.sp_core.specs.PlainCore.{PlainNode, PlainCore}
use Rattle.sp_core.specs.Replay.{after_moment, after_all}
use Rattle.sp_core.specs.Store.{Store}
use Rattle.sp_meets.specs.Around.{changed_in}
use Rattle.sp_along.specs.MetTraces.{Stands}
use Rattle.sp_along.specs.AlongControllers.{Ran}
use Rattle.sp_along.specs.AlongSymbols.{holds_symbol, EachIn}
use Rattle.sp_meets_hold.proofs.SymbolsLeaving.{Leaves, AllLeave}

-- a place that is at most one controller further in
pub record IsShallow (before : List At) (st : Standing) : Type 0 where
  pub path : List At
  pub is : st.path ≡ before ++ path
  pub short : length path ≤ 1

module _ (core : PlainCore) where
  -- moments and the stores in which they happen
  pub each_more : (P Q : Store → Moment → Type 0) → ((s : Store) (m : Moment) → P s m → Q s m) → (ms : List Moment) (s : Store) → EachIn core P s ms → EachIn core Q s ms
  each_more P Q f [] s h = tt
  each_more P Q f (m ∷ ms) s h = (f s m h.0, each_more P Q f ms (after_moment core m s) h.1)

  pub each_both : (P Q R : Store → Moment → Type 0) → ((s : Store) (m : Moment) → P s m → Q s m → R s m) → (ms : List Moment) (s : Store) → EachIn core P s ms → EachIn core Q s ms → EachIn core R s ms
  each_both P Q R f [] s h g = tt
  each_both P Q R f (m ∷ ms) s h g = (f s m h.0 g.0, each_both P Q R f ms (after_moment core m s) h.1 g.1)

  pub each_append : (P : Store → Moment → Type 0) (xs ys : List Moment) (s : Store) → EachIn core P s xs → EachIn core P (after_all core xs s) ys → EachIn core P s (xs ++ ys)
  each_append P [] ys s h g = g
  each_append P (m ∷ xs) ys s h g = (h.0, each_append P xs ys (after_moment core m s) h.1 g)

  pub each_of_all : (P : Moment → Type 0) (ms : List Moment) (s : Store) → All P ms → EachIn core (λ _ m. P m) s ms
  each_of_all P [] s h = tt
  each_of_all P (m ∷ ms) s h = (All-head P m ms h, each_of_all P ms (after_moment core m s) (All-tail P m ms h))

  -- what a controller doesn't change holds what it held
  abbrev pub Same : PlainNode → (first s : Store) → Type 0
  Same node first s = (x : ℕ) → holds_symbol (kind_of core x) ≡ true → is_among x (changed_in node) ≡ false → s x ≡ first x

  pub all_same : (node : PlainNode) (first : Store) (ms : List Moment) → ((x : ℕ) (symbol : holds_symbol (kind_of core x) ≡ true) → is_among x (changed_in node) ≡ false → AllLeave core x symbol ms) → (s : Store) → Same node first s
      → EachIn core (λ s m. Same node first s) s ms
  all_same node first [] leave s h = tt
  all_same node first (m ∷ ms) leave s h = (
    h,
    all_same node first ms (λ x symbol q. All-tail (Leaves core x symbol) m ms (leave x symbol q)) (after_moment core m s) (λ x symbol q. All-head (Leaves core x symbol) m ms (leave x symbol q) s ∙ h x symbol q),
  )

  -- at a place along a path, symbols of each controller on the way are kept
  abbrev pub Kept : (ran : List At → Ran) (begun : List At → Store) → Store → (path : List At) → Type 0
  Kept ran begun s path =
      (around rest : List At) (here : At) (x : ℕ) → path ≡ around ++ here ∷ rest → holds_symbol (kind_of core x) ≡ true → is_among x (changed_in (ran around).node) ≡ false → s x ≡ begun around x

  -- and of each below the first one
  abbrev pub KeptDeeper : (ran : List At → Ran) (begun : List At → Store) → Store → (path : List At) → Type 0
  KeptDeeper ran begun s path =
      (first here : At) (around rest : List At) (x : ℕ) → path ≡ first ∷ (around ++ here ∷ rest) → holds_symbol (kind_of core x) ≡ true → is_among x (changed_in (ran (first ∷ around)).node) ≡ false → s x ≡ begun (first ∷ around) x

  pub record IsKept (before : List At) (ran : List At → Ran) (begun : List At → Store) (s : Store) (st : Standing) : Type 0 where
    pub path : List At
    pub is : st.path ≡ before ++ path
    pub kept : Kept ran begun s path

  pub record IsKeptDeeper (before : List At) (ran : List At → Ran) (begun : List At → Store) (s : Store) (st : Standing) : Type 0 where
    pub path : List At
    pub is : st.path ≡ before ++ path
    pub kept : KeptDeeper ran begun s path

  pub stands_both : (P R : Standing → Type 0) → ((st : Standing) → P st → R st) → (m : Moment) → Stands P m → Stands R m
  stands_both P R f (touches e) h = f e.standing h
  stands_both P R f (slices s) h = f s.standing h
  stands_both P R f (renews m) h = tt
  stands_both P R f (keeps m w) h = tt

  too_short : (path around rest : List At) (first here : At) → length path ≤ 1 → path ≡ first ∷ (around ++ here ∷ rest) → ⊥
  too_short path around rest first here l e = let n = ap length e in let m = length-append around (here ∷ rest) in omega (arith, l, n, m)

  pub shallow_kept : (before : List At) (ran : List At → Ran) (begun : List At → Store) (s : Store) (st : Standing) → IsShallow before st → IsKeptDeeper before ran begun s st
  shallow_kept before ran begun s st h = record { path = h.path; is = h.is; kept = λ first here around rest x e symbol q. absurd (too_short h.path around rest first here h.short e) }

  pub no_path_kept : (ran : List At → Ran) (begun : List At → Store) (s : Store) → Kept ran begun s []
  no_path_kept ran begun s = λ around rest here x e symbol q. absurd (let n = ap length e in let m = length-append around (here ∷ rest) in omega (arith, n, m))

  -- of a controller itself, and of those below
  pub kept_whole : (before : List At) (node : PlainNode) (ran : List At → Ran) (begun : List At → Store) (first s : Store) (st : Standing) → (ran []).node ≡ node → begun [] ≡ first → Same node first s → IsKeptDeeper before ran begun s st → IsKept before ran begun s st
  kept_whole before node ran begun first s st is from same deeper = record { path = deeper.path; is = deeper.is; kept = go }
    where
      go : Kept ran begun s deeper.path
      go [] rest here x e symbol q = same x symbol (ap (λ n. is_among x (changed_in n)) (sym is) ∙ q) ∙ sym (ap (λ f. f x) from)
      go (a ∷ around) rest here x e symbol q = deeper.kept a here around rest x e symbol q

  -- the result for a run: stores at the beginnings of the controllers along each path
  pub record KeptRun (before : List At) (ran : List At → Ran) (s : Store) (ms : List Moment) : Type 0 where
    pub begun : List At → Store
    pub kept : EachIn core (λ s m. Stands (IsKept before ran begun s) m) s ms

  -- a place below a controller at a place of it
  pub below : (st : List At) (a : At) (path local : List At) → path ≡ (st ++ a ∷ []) ++ local → path ≡ st ++ (a ∷ local)
  below st a path local e = e ∙ append_assoc st (a ∷ []) local
