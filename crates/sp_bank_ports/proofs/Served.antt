-- Banks that serve accesses.
use Rattle.std.proofs.Common.{◌≡◌, ℕ, suc, ◌<◌, ◌==◌, Bool, true, ◌&&◌, if◌then◌else◌, List, length, All, refl, ap, ◌∙◌}
use Rattle.sp_netlist.specs.Signals.{Signals}
use Rattle.sp_gates.specs.Tested.{is_on}
use Rattle.sp_access.specs.declared.access.Access.{Access}
use Rattle.sp_access.specs.Asking.{put, Agree}
use Rattle.sp_access.proofs.Agreeing.{put_by_last, found_by_last}
use Rattle.sp_taps.specs.Stores.{RunsStore}
use Rattle.sp_taps.specs.declared.store.Store.{Store}
use Rattle.sp_bank_ports.specs.declared.port.WritePort.{WritePort}
use Rattle.sp_bank_ports.specs.Ports.{IsLast, IsLastWrite, WriteConnected, ReadConnected, RunsServed}

same_write : (b c : Bool) (p q w v x old : ℕ) → b ≡ c → p ≡ q → w ≡ v → (if b && (p == x) then w else old) ≡ (if c && (q == x) then v else old)
same_write b c p q w v x old e f g = rw (e, f, g) refl

module _ (s : Signals) (bank len : ℕ) (store : Store) (write : WritePort) (read : Access) (h : RunsServed s bank len store write read) where
  pub all_written : (t : ℕ) (es : List Access) (words : List ℕ) → IsLastWrite s t es words write → length words ≡ length es → Agree s t es
      → (place : ℕ) → place < len → s.bank (suc t) bank place ≡ put s t es words place (s.bank t bank place)
  all_written t es words last each agree place l =
      h.goes t place l
      ∙ same_write _ _ _ _ _ _ place (s.bank t bank place) last.access.on last.access.place last.word
      ∙ put_by_last s t es words place (s.bank t bank place) each agree

  pub each_found : (t : ℕ) (es : List Access) → IsLast s t es read → Agree s t es → All (λ a. is_on s a.on t ≡ true → s.net (suc t) store.found ≡ s.bank t bank (s.net t a.place)) es
  each_found t es last agree k d l e =
      let f = found_by_last s t es agree k d l e in
      h.finds t (last.on ∙ f.0) ∙ ap (s.bank t bank) (last.place ∙ f.1)

-- the nets of the ports have the words of the accesses
pub served : (s : Signals) (bank len : ℕ) (store : Store) (write : WritePort) (read : Access) → RunsStore s bank len store → ((t : ℕ) → WriteConnected s t store write) → ((t : ℕ) → ReadConnected s t store read)
    → RunsServed s bank len store write read
served s bank len store write read h w r = record {
  begins = h.begins;
  goes = λ t place l.
      let c = w t in
      h.goes t place l ∙ same_write _ _ _ _ _ _ place (s.bank t bank place) (ap (λ n. n == 1) c.write) c.write_at c.word;
  finds = λ t on.
      let c = r t in
      h.finds.1 t ∙ taken _ _ _ (ap (λ n. n == 1) c.read ∙ on) ∙ ap (s.bank t bank) c.read_at;
}
  where
    taken : (b : Bool) (x y : ℕ) → b ≡ true → (if b then x else y) ≡ x
    taken b x y e = rw e refl
