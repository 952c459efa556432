-- A register that holds a copy.
use Rattle.std.proofs.Common.{◌≡◌, ℕ, ◌+◌, ◌<◌, ◌⊎◌, inl, inr, List, [], ◌∷◌, ◌++◌, length, slice_index, sym, ap, subst, ◌∙◌, arith}
use Rattle.std.proofs.lemmas.List.{get_or_append_left, get_or_push}
use Rattle.sp_netlist.specs.Signals.{Signals, Holds}
use Rattle.sp_gates.proofs.Words.{always}
use Rattle.sp_mem.specs.declared.part.Register.{Register}
use Rattle.sp_mem.specs.Copies.{freshened, written, first_word}
use Rattle.sp_mem.specs.Runs.{RunsCopy}

pub copy_runs : (s : Signals) (part : Register) (copy net begun next first one word : ℕ) → Holds (λ t. s.net t net) word (λ t. s.net t one) (λ t. s.net t next) → word ≡ first_word part.first → ((t : ℕ) → s.net t one ≡ 1)
    → ((t : ℕ) → s.net t begun ≡ freshened s t copy (s.net t first) part.fresh.items (s.net t net)) → ((t : ℕ) → s.net t next ≡ written s t copy part.writes.items (s.net t begun))
    → ((t : ℕ) → s.net t first ≡ first_word part.first) → RunsCopy s part copy net
copy_runs s part copy net begun next first one word holds is on fresh writes constant = record {
  begins = holds.0 ∙ is;
  goes = λ t.
      always (λ t. s.net t net) (λ t. s.net t next) (λ t. s.net t one) word holds on t
      ∙ writes t
      ∙ ap (written s t copy part.writes.items) (fresh t ∙ ap (λ f. freshened s t copy f part.fresh.items (s.net t net)) (constant t));
}

-- one more copy
pub copies_pushed : (s : Signals) (part : Register) (nets : List ℕ) (net n : ℕ) → length nets ≡ n → ((copy : ℕ) → copy < n → RunsCopy s part copy (slice_index nets copy)) → RunsCopy s part n net
    → (copy : ℕ) → copy < n + 1 → RunsCopy s part copy (slice_index (nets ++ net ∷ []) copy)
copies_pushed s part nets net n each old new copy l = go (split l)
  where
    split : copy < n + 1 → (copy < n) ⊎ (copy ≡ n)
    split h = grind arith

    go : (copy < n) ⊎ (copy ≡ n) → RunsCopy s part copy (slice_index (nets ++ net ∷ []) copy)
    go (inl below) = subst (RunsCopy s part copy) (sym (get_or_append_left nets (net ∷ []) 0 copy (omega (arith, each, below)))) (old copy below)
    go (inr same) = subst (RunsCopy s part copy) (sym (get_or_push nets net 0 copy (each ∙ sym same))) (subst (λ k. RunsCopy s part k net) (sym same) new)
