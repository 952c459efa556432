-- Reads and writes of a memory among the events of a list.
use Rattle.std.proofs.Common.{◌≡◌, ℕ, ◌==◌, Bool, true, List, refl, ap, subst, ◌∙◌, eqb-true, eq-eqb}
use Rattle.std.specs.List.{Contains, filter}
use Rattle.std.proofs.lemmas.Bool.{and_parts, and_from, false≢true}
use Rattle.std.proofs.lemmas.List.Elements.{All-filter, All-contains, All-contains_itself, filter_passes}
use Rattle.sp_core.specs.Events.{Act, reads, writes, turns, Event, touches}
use Rattle.sp_machine.specs.Stamps.{Stamped}
use Rattle.sp_bank_words.specs.Accesses.{is_read, is_write, is_turn, is_at, reads_in, writes_in, turns_in}
use Rattle.sp_bank_words.proofs.Elements.{passing}

pub filter_has : {X : Type 0} (p : X → Bool) (xs : List X) (x : X) → Contains xs x → p x ≡ true → Contains (filter p xs) x
filter_has p xs x (k, l, e) q = subst (Contains (filter p xs)) e (passing p (Contains (filter p xs)) xs (All-contains_itself (filter p xs)) k x l (ap p e ∙ q))

pub filter_from : {X : Type 0} (p : X → Bool) (xs : List X) (x : X) → Contains (filter p xs) x → Contains xs x × (p x ≡ true)
filter_from p xs x c = (All-contains (Contains xs) (filter p xs) x (All-filter p (Contains xs) xs (All-contains_itself xs)) c, All-contains (λ y. p y ≡ true) (filter p xs) x (filter_passes p xs) c)

-- an event that reads the memory in a cycle, at a copy; and one that writes it
pub record IsReadAt (events : List Stamped) (m t c : ℕ) (e : Event) : Type 0 where
  pub there : Contains events (record { cycle = t; copy = c; moment = touches e })
  pub mem : e.mem ≡ m
  pub word : ℕ
  pub act : e.act ≡ reads word

pub record IsWriteAt (events : List Stamped) (m t c : ℕ) (e : Event) : Type 0 where
  pub there : Contains events (record { cycle = t; copy = c; moment = touches e })
  pub mem : e.mem ≡ m
  pub word : ℕ
  pub act : e.act ≡ writes word

-- and one that turns its rows
pub record IsTurnAt (events : List Stamped) (m t c : ℕ) (e : Event) : Type 0 where
  pub there : Contains events (record { cycle = t; copy = c; moment = touches e })
  pub mem : e.mem ≡ m
  pub act : e.act ≡ turns

turns_act : (a : Act) → is_turn a ≡ true → a ≡ turns
turns_act turns h = refl
turns_act _ h = absurd (false≢true h)

reads_word : (a : Act) → is_read a ≡ true → (w : ℕ) × (a ≡ reads w)
reads_word (reads w) h = (w, refl)
reads_word _ h = absurd (false≢true h)

writes_word : (a : Act) → is_write a ≡ true → (w : ℕ) × (a ≡ writes w)
writes_word (writes w) h = (w, refl)
writes_word _ h = absurd (false≢true h)

module _ (events : List Stamped) (m t c : ℕ) (e : Event) where
  pub read_from : Contains (reads_in m events) (record { cycle = t; copy = c; moment = touches e }) → IsReadAt events m t c e
  read_from h =
      let f = filter_from (λ (x : Stamped). is_at is_read m x.moment) events (record { cycle = t; copy = c; moment = touches e }) h in
      let q = and_parts (e.mem == m) (is_read e.act) f.1 in
      let w = reads_word e.act q.1 in
      record { there = f.0; mem = eqb-true _ _ q.0; word = w.0; act = w.1 }

  pub write_from : Contains (writes_in m events) (record { cycle = t; copy = c; moment = touches e }) → IsWriteAt events m t c e
  write_from h =
      let f = filter_from (λ (x : Stamped). is_at is_write m x.moment) events (record { cycle = t; copy = c; moment = touches e }) h in
      let q = and_parts (e.mem == m) (is_write e.act) f.1 in
      let w = writes_word e.act q.1 in
      record { there = f.0; mem = eqb-true _ _ q.0; word = w.0; act = w.1 }

  pub read_to : IsReadAt events m t c e → Contains (reads_in m events) (record { cycle = t; copy = c; moment = touches e })
  read_to r = filter_has (λ (x : Stamped). is_at is_read m x.moment) events _ r.there (and_from (e.mem == m) (is_read e.act) (eq-eqb _ _ r.mem) (ap is_read r.act))

  pub write_to : IsWriteAt events m t c e → Contains (writes_in m events) (record { cycle = t; copy = c; moment = touches e })
  write_to w = filter_has (λ (x : Stamped). is_at is_write m x.moment) events _ w.there (and_from (e.mem == m) (is_write e.act) (eq-eqb _ _ w.mem) (ap is_write w.act))

  pub turn_from : Contains (turns_in m events) (record { cycle = t; copy = c; moment = touches e }) → IsTurnAt events m t c e
  turn_from h =
      let f = filter_from (λ (x : Stamped). is_at is_turn m x.moment) events (record { cycle = t; copy = c; moment = touches e }) h in
      let q = and_parts (e.mem == m) (is_turn e.act) f.1 in
      record { there = f.0; mem = eqb-true _ _ q.0; act = turns_act e.act q.1 }

  pub turn_to : IsTurnAt events m t c e → Contains (turns_in m events) (record { cycle = t; copy = c; moment = touches e })
  turn_to u = filter_has (λ (x : Stamped). is_at is_turn m x.moment) events _ u.there (and_from (e.mem == m) (is_turn e.act) (eq-eqb _ _ u.mem) (ap is_turn u.act))
