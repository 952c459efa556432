-- What a combination does to the copies of its memories.
use Rattle.std.proofs.Common.{◌≡◌, ℕ, Option, Some, None, refl, sym, ◌∙◌, ap, subst}
use Rattle.std.specs.Prelude.{option_map}
use Rattle.sp_words.specs.Memory.{Contents}
use Rattle.sp_core.specs.Accesses.{word_in, with_word}
use Rattle.sp_core.specs.Declarations.{kind_of, dims}
use Rattle.sp_core.specs.Elements.{are_inside}
use Rattle.sp_core.specs.PlainCore.{PlainCore}
use Rattle.sp_core.specs.Store.{Store}
use Rattle.std.specs.Prelude.{[]}
use Rattle.sp_lane_trees.proofs.CombinationsCombining.{Holds, combined_in}
use Rattle.sp_lane_trees.proofs.CombinationsRegisters.{HasPlace, ReadsAs, put_in, put, put_here, put_other}

-- two memories of two cores are declared alike
pub record Alike (core lanes : PlainCore) (m n : ℕ) : Type 0 where
  pub kinds : kind_of lanes n ≡ kind_of core m
  pub sizes : dims lanes n ≡ dims core m

module _ (core lanes : PlainCore) where
  pub place_alike : (m n : ℕ) → Alike core lanes m n → HasPlace core m → HasPlace lanes n
  place_alike m n a h = ap (λ d. are_inside d []) a.sizes ∙ h

  pub reads_alike : (m n : ℕ) → Alike core lanes m n → (c : Option Contents) (x : ℕ) → ReadsAs core m c x → ReadsAs lanes n c x
  reads_alike m n a c x h = (place_alike m n a h.0, ap (λ k. word_in k (dims lanes n) [] c) a.kinds ∙ ap (λ d. word_in (kind_of core m) d [] c) a.sizes ∙ h.1)

  pub put_alike : (m n : ℕ) → Alike core lanes m n → (x : ℕ) (c : Option Contents) → put_in lanes n x c ≡ put_in core m x c
  put_alike m n a x c = ap (λ k. with_word k (dims lanes n) [] x c) a.kinds ∙ ap (λ d. with_word (kind_of core m) d [] x c) a.sizes

  -- what the accumulator holds of this run, its copy does
  pub holds_alike : (f : ℕ → ℕ) (begun : Option ℕ) (acc : ℕ) → Alike core lanes acc (f acc) → ((b : ℕ) → begun ≡ Some b → Alike core lanes b (f b)) → (s t : Store) → t (f acc) ≡ s acc → ((b : ℕ) → begun ≡ Some b → t (f b) ≡ s b)
      → (held : Option ℕ) → Holds core begun acc s held → Holds lanes (option_map f begun) (f acc) t held
  holds_alike f None acc a b s t e g None h = absurd h
  holds_alike f None acc a b s t e g (Some x) h = reads_alike acc (f acc) a (t (f acc)) x (subst (λ c. ReadsAs core acc c x) (sym e) h)
  holds_alike f (Some y) acc a b s t e g None h = (reads_alike y (f y) (b y refl) (t (f y)) 0 (subst (λ c. ReadsAs core y c 0) (sym (g y refl)) h.0), place_alike acc (f acc) a h.1)
  holds_alike f (Some y) acc a b s t e g (Some x) h =
      (reads_alike y (f y) (b y refl) (t (f y)) 1 (subst (λ c. ReadsAs core y c 1) (sym (g y refl)) h.0), reads_alike acc (f acc) a (t (f acc)) x (subst (λ c. ReadsAs core acc c x) (sym e) h.1))

  -- what the copies hold after it
  pub left_acc : (f : ℕ → ℕ) (begun : Option ℕ) (acc x : ℕ) (t : Store) → ((b : ℕ) → begun ≡ Some b → f acc ≡ f b → ⊥) → combined_in lanes (option_map f begun) (f acc) x t (f acc) ≡ Some (put_in lanes (f acc) x (t (f acc)))
  left_acc f None acc x t far = put_here lanes (f acc) x t
  left_acc f (Some b) acc x t far = put_other lanes (f b) 1 (put lanes (f acc) x t) (f acc) (far b refl) ∙ put_here lanes (f acc) x t

  pub left_flag : (f : ℕ → ℕ) (begun : Option ℕ) (acc x : ℕ) (t : Store) → ((b : ℕ) → begun ≡ Some b → f acc ≡ f b → ⊥) → (b : ℕ) → begun ≡ Some b → combined_in lanes (option_map f begun) (f acc) x t (f b) ≡ Some (put_in lanes (f b) 1 (t (f b)))
  left_flag f None acc x t far b e = absurd (nothing e)
    where
      nothing : ◌≡◌ {A = Option ℕ} None (Some b) → ⊥
      nothing e = cc
  left_flag f (Some y) acc x t far b e = subst (λ n. combined_in lanes (Some (f y)) (f acc) x t (f n) ≡ Some (put_in lanes (f n) 1 (t (f n)))) same
      (put_here lanes (f y) 1 (put lanes (f acc) x t) ∙ ap (λ d. Some (put_in lanes (f y) 1 d)) (put_other lanes (f acc) x t (f y) (λ i. far y refl (sym i))))
    where
      same : y ≡ b
      same = cc

  pub left_other : (f : ℕ → ℕ) (begun : Option ℕ) (acc x : ℕ) (t : Store) (n : ℕ) → (n ≡ f acc → ⊥) → ((b : ℕ) → begun ≡ Some b → n ≡ f b → ⊥) → combined_in lanes (option_map f begun) (f acc) x t n ≡ t n
  left_other f None acc x t n ne far = put_other lanes (f acc) x t n ne
  left_other f (Some b) acc x t n ne far = put_other lanes (f b) 1 (put lanes (f acc) x t) n (far b refl) ∙ put_other lanes (f acc) x t n ne
