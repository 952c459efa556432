-- The laws of what memories hold.
use Rattle.std.proofs.Common.{◌≢◌, ◌≡◌, ℕ, Bool, true, false, cond, refl, sym, ◌∙◌, ap, subst, arith, rules, List, [], ◌∷◌, length}
use Rattle.std.specs.Prelude.{Option, Some, None, option_map, replicate, IsTrue}
use Rattle.std.specs.Ordering.{nat_cmp, eq_by_cmp}
use Rattle.std.proofs.lemmas.Cmp.{nat_cmp_total}
use Rattle.std.specs.FinMap.{gets, get-insert, same_map, nat_cmp-IsAntisymmetric}
use Rattle.std.proofs.lemmas.Bool.Decides.{nat_tests}
use Rattle.std.proofs.lemmas.List.{length-replicate}
use Rattle.std.proofs.lemmas.List.Elements.{All-replicate}
use Rattle.sp_words.specs.declared.kind.Kind.{Kind}
use Rattle.sp_words.specs.declared.kind.Kind.TheVariants.{Reg, Sram, Fifo, LineBuf, Dram, ArgIn, ArgOut}
use Rattle.sp_words.specs.Interface.{word_count}
use Rattle.sp_words.specs.Memory.{Contents, State, Access, held, update, fresh_rows, fresh_of}
use Rattle.sp_words.specs.Footprints.{seen, IsFootprint, HasRows, IsContentsOf, IsDeclared}

-- ---- one update

pub held-update : (s : State) (n : ℕ) (c : Contents) → held (update s n c) n ≡ Some c
held-update s n c = grind (gets, rules, nat_tests)

pub held-update_other : (s : State) (n : ℕ) (c : Contents) (q : ℕ) → q ≢ n → held (update s n c) q ≡ held s q
held-update_other s n c q apart = grind (gets, rules, nat_tests)

pub same_state : (one two : State) → ((n : ℕ) → held one n ≡ held two n) → one ≡ two
same_state one two alike = same_map nat_cmp_total nat_cmp-IsAntisymmetric one two alike

last_of : {A : Type 0} (b : Bool) (x y z : A) → cond b x (cond b y z) ≡ cond b x z
last_of true x y z = refl
last_of false x y z = refl

pub update_last : (s : State) (n : ℕ) (c d : Contents) → update (update s n c) n d ≡ update s n d
update_last s n c d =
    same_state _ _ (λ q.
    get-insert nat_cmp_total (update s n c) n d q
    ∙ ap (cond (eq_by_cmp nat_cmp q n) (Some d)) (get-insert nat_cmp_total s n c q)
    ∙ last_of (eq_by_cmp nat_cmp q n) (Some d) (Some c) (held s q)
    ∙ sym (get-insert nat_cmp_total s n d q))

pub update_apart : (s : State) (m n : ℕ) (c d : Contents) → m ≢ n → update (update s m c) n d ≡ update (update s n d) m c
update_apart s m n c d apart = same_state _ _ (λ q. grind (gets, rules, nat_tests))

-- ---- accesses

abbrev HasNone : {A : Type 0} → Option A → Type 0
HasNone None = Unit {0}
HasNone (Some x) = ⊥

none_is_not_some : {A B : Type 0} (x : A) → None ≡ Some x → B
none_is_not_some x e = absurd (subst HasNone e tt)

-- the state after an access, or another one where it did not run
after_or : {Answer : Type 0} → State → Option (Answer × State) → State
after_or s None = s
after_or s (Some r) = r.1

-- what an access to the memory gives where the memory holds this, or is not live
abbrev outcome : {Answer : Type 0} → State → ℕ → Access Answer → Option Contents → Option (Answer × State)
outcome s n access o = option_map (λ was. ((access was).0, update s n (access was).1)) o

changes_from : {Answer : Type 0} (n : ℕ) (access : Access Answer) (before after : State) (answer : Answer) (q : ℕ) (o : Option Contents) → outcome before n access o ≡ Some (answer, after) → q ≢ n → held after q ≡ held before q
unfolding after_or
changes_from n access before after answer q None e apart = none_is_not_some (answer, after) e
changes_from n access before after answer q (Some was) e apart =
    sym (ap (λ r. held (after_or before r) q) e) ∙ held-update_other before n (access was).1 q apart

looks_from : {Answer : Type 0} (n : ℕ) (access : Access Answer) (one two : State) (o : Option Contents) → seen n (outcome one n access o) ≡ seen n (outcome two n access o)
looks_from n access one two None = refl
looks_from n access one two (Some was) =
    ap (λ h. Some ((access was).0, h)) (held-update one n (access was).1 ∙ sym (held-update two n (access was).1))

pub footprint : {Answer : Type 0} (n : ℕ) (access : Access Answer) → IsFootprint n access
footprint n access =
    record {
      changes = λ before after answer q e apart. changes_from n access before after answer q (held before n) e apart;
      looks = λ one two e. looks_from n access one two (held one n) ∙ ap (λ o. seen n (outcome two n access o)) e;
      runs = λ before was e.
          ap (λ o. seen n (outcome before n access o)) e
          ∙ ap (λ h. Some ((access was).0, h)) (held-update before n (access was).1);
    }

-- ---- fresh memories

fresh-HasRows : (dims : List ℕ) → length dims ≡ 2 → HasRows dims (fresh_rows dims)
fresh-HasRows [] e = absurd (omega arith)
fresh-HasRows (r ∷ []) e = absurd (omega arith)
fresh-HasRows (r ∷ c ∷ []) e =
    (length-replicate r (replicate c None), All-replicate (λ row. length row ≡ c) r (replicate c None) (length-replicate c None))
fresh-HasRows (r ∷ c ∷ d ∷ ds) e = absurd (omega arith)

pub fresh_fits : (kind : Kind) (dims : List ℕ) (start : Option ℕ) (given : List ℕ) → IsDeclared kind dims given → IsContentsOf kind dims (fresh_of kind dims start given)
fresh_fits Reg dims start given h = refl
fresh_fits Sram dims start given h = length-replicate (word_count dims) None
fresh_fits Fifo dims start given h = omega arith
fresh_fits LineBuf dims start given h = fresh-HasRows dims h
fresh_fits Dram dims start given h = h
fresh_fits ArgIn dims start given h = h
fresh_fits ArgOut dims start given h = refl

-- ---- kinds

-- a kind that passes a test is none that fails it
pub other_kind : (test : Kind → Bool) (k l : Kind) → IsTrue (test k) → test l ≡ false → k ≢ l
other_kind test k l t f e =
    let no : true ≡ false = sym t ∙ ap test e ∙ f in
    cc
