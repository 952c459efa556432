-- What is known of the pieces of a slice as the draft grows.
use Rattle.std.proofs.Common.{◌≡◌, ℕ, zero, suc, ◌<◌, ◌^◌, Bool, List, [], ◌∷◌, length, All, refl, sym, ap, subst, true, arith}
use Rattle.std.specs.Prelude.{slice_index_or}
use Rattle.std.proofs.lemmas.List.Elements.{All-head, All-tail, All-weaker}
use Rattle.sp_netlist.specs.Draft.{Draft}
use Rattle.sp_netlist.specs.Signals.{Signals}
use Rattle.sp_gates.specs.Grows.{Grows}
use Rattle.sp_gates.specs.Runs.{RunsOn}
use Rattle.sp_gates.specs.Tested.{is_on}
use Rattle.sp_gates.proofs.Growing.{HasNet-stays}
use Rattle.sp_gates.proofs.Running.{runs_earlier}
use Rattle.sp_counters.specs.declared.part.Count.{Count}
use Rattle.sp_counters.specs.declared.part.Counter.{Counter}
use Rattle.sp_counters.specs.declared.part.Counters.{Counters}
use Rattle.sp_counters.specs.declared.part.Counted.{Counted}
use Rattle.sp_counters.specs.Counting.{AllCount, none, counted, CountsGroups}
use Rattle.sp_counters.specs.Fits.{CountFits, IsCounter}
use Rattle.sp_counters.specs.Pieces.{HasInt}
use Rattle.sp_slices.specs.declared.part.Axis.{Axis}
use Rattle.sp_slices.specs.declared.part.Move.{Move}
use Rattle.sp_slices.specs.declared.part.Move.TheVariants.{One, Range}
use Rattle.sp_slices.specs.Fits.{MoveFits, IsAxis}
use Rattle.sp_slices.specs.Slices.{CountsMove, CountMoves, no_move, one_move, FollowsAxis, FollowAxes, no_axis, one_axis, all_ended}

pub move_stays : (a b : Draft) → Grows a b → (m : Move) → MoveFits a m → MoveFits b m
move_stays a b g (One i) h = HasNet-stays a b i 32 g h
move_stays a b g (Range x y) h = (HasNet-stays a b x 32 g h.0, HasNet-stays a b y 32 g h.1)

pub moves_stay : (a b : Draft) (ms : List Move) → Grows a b → All (MoveFits a) ms → All (MoveFits b) ms
moves_stay a b ms g h = All-weaker (MoveFits a) (MoveFits b) (move_stays a b g) ms h

pub count_stays : (a b : Draft) → Grows a b → (c : Count) → CountFits a c → CountFits b c
count_stays a b g c h = record { from = HasNet-stays a b c.from 32 g h.from; until = HasNet-stays a b c.until 32 g h.until; goes_on = h.goes_on; small = h.small }

pub counts_stay : (a b : Draft) (cs : List Count) → Grows a b → All (CountFits a) cs → All (CountFits b) cs
counts_stay a b cs g h = All-weaker (CountFits a) (CountFits b) (count_stays a b g) cs h

pub axis_stays : (a b : Draft) → Grows a b → (x : Axis) → IsAxis a x → IsAxis b x
axis_stays a b g x h = record { from = HasNet-stays a b x.from 32 g h.from; until = HasNet-stays a b x.until 32 g h.until; ended = HasNet-stays a b x.ended 1 g h.ended; offset = HasNet-stays a b x.offset 32 g h.offset }

pub axes_stay : (a b : Draft) (xs : List Axis) → Grows a b → All (IsAxis a) xs → All (IsAxis b) xs
axes_stay a b xs g h = All-weaker (IsAxis a) (IsAxis b) (axis_stays a b g) xs h

pub int_stays : (a b : Draft) → Grows a b → (n : ℕ) → HasInt a n → HasInt b n
int_stays a b g n h = record { net_stands = HasNet-stays a b n 32 g h.net_stands; fits = λ s r. h.fits s (runs_earlier a b s g r) }

pub ints_stay : (a b : Draft) (ns : List Counter) → Grows a b → All (λ n. HasInt a n.value) ns → All (λ n. HasInt b n.value) ns
ints_stay a b ns g h = All-weaker (λ n. HasInt a n.value) (λ n. HasInt b n.value) (λ n. int_stays a b g n.value) ns h

pub counters_stay : (a b : Draft) (ns : List Counter) → Grows a b → All (IsCounter a) ns → All (IsCounter b) ns
counters_stay a b ns g h = All-weaker (IsCounter a) (IsCounter b) (λ n. HasNet-stays a b n.value 32 g) ns h

-- what holds of each of a list, of the first and of the rest
module _ {X : Type 0} (P : X → Type 0) (xs rest : List X) (x : X) (is : xs ≡ x ∷ rest) (h : All P xs) where
  pub of_first : P x
  of_first = All-head P x rest (subst (All P) is h)

  pub of_rest : All P rest
  of_rest = All-tail P x rest (subst (All P) is h)

-- the words of counters have 32 bits
fits_at : (s : Signals) (start step : ℕ → Bool) (counts : List Count) (counters : List Counter) → AllCount s start step counts counters → (k : ℕ) (d : Counter) → k < length counters → (t : ℕ) → s.net t (slice_index_or counters k d).value < 2 ^ 32
fits_at s start step _ _ none k d l t = absurd (omega (arith, l))
fits_at s start step _ _ (counted h hs) zero d l t = h.fits t
fits_at s start step _ _ (counted h hs) (suc k) d l t = fits_at s start step _ _ hs k d (omega (arith, l)) t

pub are_ints : (d : Draft) (part : Counters) (nets : Counted) → All (IsCounter d) nets.counters.items → ((s : Signals) → RunsOn s d.cells → CountsGroups s part nets) → All (λ n. HasInt d n.value) nets.counters.items
are_ints d part nets h runs = λ k x l. record { net_stands = h k x l; fits = λ s r. fits_at s (is_on s part.start) (is_on s part.step) part.counters.items nets.counters.items (runs s r).each k x l }

pub as_many : (s : Signals) (start step : ℕ → Bool) (counts : List Count) (counters : List Counter) → AllCount s start step counts counters → length counts ≡ length counters
as_many s start step _ _ none = refl
as_many s start step _ _ (counted h hs) = ap (λ n. suc n) (as_many s start step _ _ hs)

pub no_moves : (s : Signals) (ms : List Move) (cs : List Count) → ms ≡ [] → cs ≡ [] → CountMoves s ms cs
no_moves s ms cs e f = subst (λ xs. CountMoves s xs cs) (sym e) (subst (λ ys. CountMoves s [] ys) (sym f) no_move)

pub more_moves : (s : Signals) (ms rest : List Move) (m : Move) (cs new : List Count) (c : Count) → ms ≡ m ∷ rest → new ≡ c ∷ cs → CountsMove s m c → CountMoves s rest cs → CountMoves s ms new
more_moves s ms rest m cs new c e f h hs = subst (λ xs. CountMoves s xs new) (sym e) (subst (λ ys. CountMoves s (m ∷ rest) ys) (sym f) (one_move h hs))

pub no_axes : (s : Signals) (start : ℕ → Bool) (cs : List Count) (ns : List Counter) (xs : List Axis) → cs ≡ [] → ns ≡ [] → xs ≡ [] → FollowAxes s start cs ns xs
no_axes s start cs ns xs e f g = subst (λ v. FollowAxes s start v ns xs) (sym e) (subst (λ v. FollowAxes s start [] v xs) (sym f) (subst (λ v. FollowAxes s start [] [] v) (sym g) no_axis))

pub more_axes : (s : Signals) (start : ℕ → Bool) (cs cs' : List Count) (c : Count) (ns ns' : List Counter) (n : Counter) (xs xs' : List Axis) (x : Axis) → cs ≡ c ∷ cs' → ns ≡ n ∷ ns' → xs ≡ x ∷ xs' → FollowsAxis s start c n x → FollowAxes s start cs' ns' xs' → FollowAxes s start cs ns xs
more_axes s start cs cs' c ns ns' n xs xs' x e f g h hs = subst (λ v. FollowAxes s start v ns xs) (sym e) (subst (λ v. FollowAxes s start (c ∷ cs') v xs) (sym f) (subst (λ v. FollowAxes s start (c ∷ cs') (n ∷ ns') v) (sym g) (one_axis h hs)))

pub none_ended : (s : Signals) (ns : List Counter) (xs : List Axis) (t : ℕ) → xs ≡ [] → all_ended s ns xs t ≡ true
none_ended s [] xs t e = refl
none_ended s (n ∷ ns) xs t e = ap (λ ys. all_ended s (n ∷ ns) ys t) e

pub none_at_all : (s : Signals) (ns : List Counter) (xs : List Axis) (t : ℕ) → ns ≡ [] → all_ended s ns xs t ≡ true
none_at_all s ns xs t e = ap (λ ys. all_ended s ys xs t) e

pub one_move_each : (s : Signals) (ms : List Move) (cs : List Count) → CountMoves s ms cs → length cs ≡ length ms
one_move_each s _ _ no_move = refl
one_move_each s _ _ (one_move h hs) = ap (λ n. suc n) (one_move_each s _ _ hs)
