-- Layouts of memories by valid plans.
use Rattle.std.proofs.Common.{◌≡◌, ℕ, zero, suc, ◌+◌, ◌*◌, ◌<◌, ◌≤◌, ◌^◌, Bool, true, List, [], ◌∷◌, map, length, drop, slice_index, slice_index_or, All, Option, Some, None, refl, sym, ap, subst, ◌∙◌, arith, inl, inr}
use Rattle.std.specs.List.{list_all, remove}
use Rattle.std.specs.Int.{IsGcd}
use Rattle.std.specs.Prelude.{replicate, nat_le}
use Rattle.std.proofs.lemmas.Bool.{and_parts, eqb-true, leb-true, lt-ltb}
use Rattle.std.proofs.lemmas.Grind.{div_ceil_times}
use Rattle.std.proofs.lemmas.List.{length-replicate, get_or-replicate}
use Rattle.std.proofs.Math.Nat.{one-dvd, suc-mul, mul-le-mul_left, mul-le-mul_right, mul_left_comm}
use Rattle.sp_bank.specs.Banking.{Banking, InSpace}
use Rattle.sp_bank.specs.Places.{IsInside, product_of, periods, bank_length, bank as bank_number}
use Rattle.sp_bank.proofs.Distinct.{same_element}
use Rattle.sp_bank.proofs.MemorySizes.{product_of-remove}
use Rattle.sp_words.specs.declared.kind.Kind.TheVariants.{Sram, LineBuf}
use Rattle.sp_words.specs.Interface.{word_count}
use Rattle.sp_core.specs.declared.access.Meet.{Meet}
use Rattle.sp_core.specs.Forms.{PlainForms}
use Rattle.sp_core.specs.Declarations.{mem, kind_of, dims}
use Rattle.sp_core.specs.Invariant.{IsCore}
use Rattle.sp_core.specs.MemoryRules.{has_rank, is_mem_right}
use Rattle.sp_core.specs.PlainCore.{no_mem, PlainCore}
use Rattle.sp_netlist.specs.Rules.{IsLength}
use Rattle.sp_places.specs.declared.layout.Layout.{Layout}
use Rattle.sp_places.specs.Layouts.{banking_of}
use Rattle.sp_plan.specs.PlainPlan.{PlainMemPlan, no_mem_plan, PlainPlan, mem_plan}
use Rattle.sp_plan.specs.Ports.{scheme_at}
use Rattle.sp_plan.specs.Validity.{schemes_of, has_rank as plan_rank, fits_scheme, is_scheme_right}
use Rattle.sp_overlap.specs.Whole.{HasPlan}
use Rattle.sp_overlap.proofs.Lanes.{all_below}
use Rattle.sp_bank_words.specs.Layouts.{one_bank, banking_for, IsLayoutOf, LayoutsStand, IsColumnsOf, ColumnsStand, PlansHaveLayouts}
use Rattle.sp_bank_words.proofs.Elements.{same_size}
use Rattle.sp_bank_words.proofs.Acts.{sram_there, lines_there}
use Rattle.sp_bank_words.proofs.Serving.{bank_for}

all_at : {X : Type 0} (p : X → Bool) (xs : List X) (k : ℕ) (d : X) → list_all p xs ≡ true → k < length xs → p (slice_index_or xs k d) ≡ true
all_at p [] k d h l = absurd (omega (arith, l))
all_at p (x ∷ xs) zero d h l = (and_parts (p x) (list_all p xs) h).0
all_at p (x ∷ xs) (suc k) d h l = all_at p xs k d (and_parts (p x) (list_all p xs) h).1 (omega (arith, l))

-- each size of a memory is no more than all of its words
some_words : (d w : ℕ) → 1 ≤ d * w → (1 ≤ d) × (1 ≤ w) × (d ≤ d * w) × (w ≤ d * w)
some_words zero w h = absurd (omega (arith, h))
some_words (suc d) zero h = absurd (omega (arith, h))
some_words (suc d) (suc w) h =
    let a : suc d * 1 ≤ suc d * suc w = mul-le-mul_left (suc d) (omega arith) in
    let b : 1 * suc w ≤ suc d * suc w = mul-le-mul_right (suc w) (omega arith) in
    (omega arith, omega arith, omega (arith, a), omega (arith, b))

each_size : (ds : List ℕ) → 1 ≤ word_count ds → All (λ d. (1 ≤ d) × (d ≤ word_count ds)) ds
each_size [] h = λ k d l. absurd (omega (arith, l))
each_size (x ∷ ds) h = all_sizes x ds (some_words x (word_count ds) h) (each_size ds (some_words x (word_count ds) h).1)
  where
    all_sizes : (x : ℕ) (ds : List ℕ) → (1 ≤ x) × (1 ≤ word_count ds) × (x ≤ x * word_count ds) × (word_count ds ≤ x * word_count ds) → All (λ d. (1 ≤ d) × (d ≤ word_count ds)) ds → All (λ d. (1 ≤ d) × (d ≤ x * word_count ds)) (x ∷ ds)
    all_sizes x ds s h zero d l = (s.0, s.2)
    all_sizes x ds s h (suc k) d l = let r = h k d (omega (arith, l)) in let a = r.1 in let b = s.3 in (r.0, omega (arith, a, b))

-- places in blocks of four at most along a dimension of so many banks are at most five times as many as there are indices
few_places : (p n b d : ℕ) → 1 ≤ n → b ≤ 4 → 1 ≤ d → p * (n * b) < d + n * b → p * b ≤ 5 * d
few_places zero n b d some small size h = omega arith
few_places (suc p) n b d some small size h =
    let a : suc p * (n * b) ≡ p * (n * b) + n * b = suc-mul p (n * b) in
    let c : suc p * b ≡ p * b + b = suc-mul p b in
    let e : 1 * b ≤ n * b = mul-le-mul_right b some in
    let f : p * b ≤ p * (n * b) = mul-le-mul_left p (omega (arith, e)) in
    omega (arith, a, c, f, h, small, size)

block_small : (b : Banking) → InSpace b → (1 ≤ b.banks) × (1 ≤ b.block) × (b.block ≤ 4)
block_small b h = elim h.size.allowed_block [
  | inl e ↦ (h.size.some_bank, omega (arith, e), omega (arith, e))
  | inr (inl e) ↦ (h.size.some_bank, omega (arith, e), omega (arith, e))
  | inr (inr e) ↦ (h.size.some_bank, omega (arith, e), omega (arith, e))
]

length_small : (b : Banking) (ds : List ℕ) → InSpace b → length ds ≡ length b.alpha → 1 ≤ word_count ds → bank_length b ds ≤ 5 * word_count ds
length_small b ds space rank some =
    let blocks = block_small b space in
    let hinge : b.hinge < length ds = (let h = space.size.hinge_place in omega (arith, h, rank)) in
    let d : ℕ = slice_index ds b.hinge in
    let size : 1 ≤ d = (each_size ds some b.hinge 0 hinge).0 in
    let whole = product_of-remove ds b.hinge hinge in
    let positive : 0 < b.banks * b.block = positive_product b.banks b.block blocks.0 blocks.1 in
    let under = (div_ceil_times d (b.banks * b.block) positive).1 in
    let few : periods b ds * b.block ≤ 5 * d = few_places (periods b ds) b.banks b.block d blocks.0 blocks.2 size under in
    let rest : ℕ = product_of (remove ds b.hinge) in
    let a : rest * (periods b ds * b.block) ≤ rest * (5 * d) = mul-le-mul_left rest few in
    let c : rest * (5 * d) ≡ 5 * (rest * d) = mul_left_comm rest 5 d in
    let e : word_count ds ≡ rest * d = same_size ds ∙ whole in
    omega (arith, a, c, e)
  where
    positive_product : (n b : ℕ) → 1 ≤ n → 1 ≤ b → 0 < n * b
    positive_product n b h k = let a : 1 * b ≤ n * b = mul-le-mul_right b h in omega (arith, a, k)

-- one bank is a scheme
one_in_space : (n : ℕ) → 1 ≤ n → n ≤ 3 → InSpace (one_bank n)
one_in_space n some few = record {
  size = record {
    some_bank = omega arith;
    few_banks = omega arith;
    allowed_block = inl refl;
    some_dimension = rw (length-replicate {A = ℕ} n 0) some;
    few_dimensions = rw (length-replicate {A = ℕ} n 0) few;
    hinge_place = rw (length-replicate {A = ℕ} n 0) some;
  };
  weights = zeros n;
  hinge = subst (λ k. IsGcd k 1 1) (sym (zero_there n)) (one-dvd 0, one-dvd 1, λ d a b. b);
}
  where
    zeros : (n : ℕ) → All (λ a. a < 1) (replicate n 0)
    zeros n k d l = rw (get_or-replicate n k 0 d (let e = length-replicate {A = ℕ} n 0 in omega (arith, e, l))) (omega arith)

    zero_there : (n : ℕ) → slice_index (replicate n 0) 0 ≡ 0
    zero_there zero = refl
    zero_there (suc n) = refl

-- a memory on the chip keeps the rules of memories
module _ (core : PlainCore) (m : ℕ) (there : m < length core.mems) (is_core : IsCore core) where
  its_dims : dims core m ≡ (mem core m).dims
  its_dims = rw (lt-ltb m (length core.mems) there) refl

  right : is_mem_right (mem core m) ≡ true
  right = all_at is_mem_right core.mems m no_mem (and_parts _ _ is_core.memories).0 there

  pub words : (1 ≤ word_count (dims core m)) × (word_count (dims core m) ≤ 4194304)
  words =
      let r = and_parts _ _ (and_parts _ _ right).1 in
      let a : 1 ≤ word_count (mem core m).dims = leb-true 1 (word_count (mem core m).dims) r.0 in
      let b : word_count (mem core m).dims ≤ 4194304 = leb-true (word_count (mem core m).dims) 4194304 r.1 in
      subst (λ ds. (1 ≤ word_count ds) × (word_count ds ≤ 4194304)) (sym its_dims) (a, b)

  ranked : has_rank (mem core m).kind (length (dims core m)) ≡ true
  ranked = subst (λ ds. has_rank (mem core m).kind (length ds) ≡ true) (sym its_dims) (and_parts _ _ (and_parts _ _ right).0).0

  pub rank : (mem core m).kind ≡ Sram → (1 ≤ length (dims core m)) × (length (dims core m) ≤ 3)
  rank sram =
      let s = and_parts (nat_le 1 (length (dims core m))) (nat_le (length (dims core m)) 3) (ap (λ k. has_rank k (length (dims core m))) (sym sram) ∙ ranked) in
      (leb-true 1 (length (dims core m)) s.0, leb-true (length (dims core m)) 3 s.1)

  pub two : (mem core m).kind ≡ LineBuf → length (dims core m) ≡ 2
  two lines = eqb-true (length (dims core m)) 2 (ap (λ k. has_rank k (length (dims core m))) (sym lines) ∙ ranked)

pub scheme_is : (plan : PlainPlan) (m : ℕ) → scheme_at (schemes_of plan) (Some m) ≡ (mem_plan plan m).scheme
scheme_is plan m = go plan.mems m
  where
    go : (ps : List PlainMemPlan) (m : ℕ) → slice_index_or (map (λ (p : PlainMemPlan). p.scheme) ps) m None ≡ (slice_index_or ps m no_mem_plan).scheme
    go [] m = refl
    go (p ∷ ps) zero = refl
    go (p ∷ ps) (suc m) = go ps m

-- the scheme of a memory has its rank, and one for columns one dimension
scheme_space : (core : PlainCore) (m : ℕ) (scheme : Option Banking) (n : ℕ) → (mem core m).kind ≡ Sram → length (mem core m).dims ≡ n → 1 ≤ n → n ≤ 3 → fits_scheme core m scheme ≡ true → ((b : Banking) → scheme ≡ Some b → InSpace b)
    → InSpace (banking_for scheme n) × (n ≡ length (banking_for scheme n).alpha)
scheme_space core m None n sram long some few fits space = (one_in_space n some few, sym (length-replicate {A = ℕ} n 0))
scheme_space core m (Some b) n sram long some few fits space =
    (space b refl, sym long ∙ sym (eqb-true (length b.alpha) (length (mem core m).dims) (ap (λ k. plan_rank k (length (mem core m).dims) (length b.alpha)) (sym sram) ∙ fits)))

column_space : (core : PlainCore) (m : ℕ) (scheme : Option Banking) → (mem core m).kind ≡ LineBuf → fits_scheme core m scheme ≡ true → ((b : Banking) → scheme ≡ Some b → InSpace b) → InSpace (banking_for scheme 1) × (1 ≡ length (banking_for scheme 1).alpha)
column_space core m None lines fits space = (one_in_space 1 (omega arith) (omega arith), refl)
column_space core m (Some b) lines fits space = (space b refl, sym (eqb-true (length b.alpha) 1 (ap (λ k. plan_rank k (length (mem core m).dims) (length b.alpha)) (sym lines) ∙ fits)))

module _ (core : PlainCore) (plan : PlainPlan) (forms : PlainForms) (meets : List Meet) (has : HasPlan core forms meets plan) (m : ℕ) (space : (b : Banking) → scheme_at (schemes_of plan) (Some m) ≡ Some b → InSpace b) (l : Layout) where
  abbrev scheme : Option Banking
  scheme = scheme_at (schemes_of plan) (Some m)

  fits : m < length core.mems → fits_scheme core m scheme ≡ true
  fits there = ap (fits_scheme core m) (scheme_is plan m) ∙ all_below (is_scheme_right core forms meets plan) (length core.mems) m has.valid.schemes there

  layouts : kind_of core m ≡ Sram → IsLayoutOf core plan m l → LayoutsStand core plan m l
  layouts sram of =
      let there = (sram_there core m sram).1 in
      let kind = (sram_there core m sram).0 in
      let wide = rank core m there has.is_core kind in
      let count = words core m there has.is_core in
      let both = scheme_space core m scheme (length (dims core m)) kind (ap length (sym (its_dims core m there has.is_core))) wide.0 wide.1 (fits there) space in
      let in_space : InSpace (banking_of l) = subst InSpace (sym of.banking) both.0 in
      let sizes : length l.dims.items ≡ length (banking_of l).alpha = ap length of.sizes ∙ both.1 ∙ ap (λ (b : Banking). length b.alpha) (sym of.banking) in
      let short : bank_length (banking_of l) (dims core m) ≤ 5 * word_count (dims core m) = length_small (banking_of l) (dims core m) in_space (ap length (sym of.sizes) ∙ sizes) count.0 in
      record {
        layout = record {
          space = in_space;
          rank = sizes;
          sizes = subst (All IsLength) (sym of.sizes) (λ k d b. let s = each_size (dims core m) count.0 k d b in let h = s.1 in let w = count.1 in (s.0, omega (arith, h, w)));
          small = subst (λ ds. bank_length (banking_of l) ds < 2 ^ 31) (sym of.sizes) (let w = count.1 in omega (arith, short, w));
        };
        bank = λ x. bank_for scheme (length (dims core m)) x ∙ ap (λ b. bank_number b x) (sym of.banking);
        apart = λ x y h k e f. same_element (banking_of l) l.dims.items x y in_space sizes (subst (λ ds. IsInside ds x) (sym of.sizes) h) (subst (λ ds. IsInside ds y) (sym of.sizes) k) e f;
      }

  -- by the rows and the columns of a line buffer
  columns_of : kind_of core m ≡ LineBuf → IsColumnsOf core plan m l → (ds : List ℕ) → dims core m ≡ ds → length ds ≡ 2 → 1 ≤ word_count ds → word_count ds ≤ 4194304 → ColumnsStand core m l
  columns_of lines of [] e two some most = absurd (omega (arith, two))
  columns_of lines of (r ∷ []) e two some most = absurd (omega (arith, two))
  columns_of lines of (r ∷ c ∷ d ∷ ds) e two some most = absurd (omega (arith, two))
  columns_of lines of (r ∷ c ∷ []) e two some most =
      let there = (lines_there core m lines).1 in
      let both = column_space core m scheme (lines_there core m lines).0 (fits there) space in
      let in_space : InSpace (banking_of l) = subst InSpace (sym of.banking) both.0 in
      let items : l.dims.items ≡ c ∷ [] = of.sizes ∙ ap (drop 1) e in
      let sizes : length l.dims.items ≡ length (banking_of l).alpha = ap length items ∙ both.1 ∙ ap (λ (b : Banking). length b.alpha) (sym of.banking) in
      let parts = some_words r (c * 1) some in
      let row = parts.2 in
      let column = parts.3 in
      let short : bank_length (banking_of l) (c ∷ []) ≤ 5 * (c * 1) = length_small (banking_of l) (c ∷ []) in_space (ap length (sym items) ∙ sizes) parts.1 in
      record {
        layout = record {
          space = in_space;
          rank = sizes;
          sizes = subst (All IsLength) (sym items) (one c (omega (arith, parts.1)) (omega (arith, column, most)));
          small = subst (λ ds. bank_length (banking_of l) ds < 2 ^ 31) (sym items) (omega (arith, short, column, most));
        };
        columns = ap length items;
        rows = r;
        length_of = (parts.0, omega (arith, row, most));
        sizes = ap (λ xs. r ∷ xs) items ∙ sym e;
      }
    where
      one : (c : ℕ) → 1 ≤ c → c < 2 ^ 31 → All IsLength (c ∷ [])
      one c h k zero d b = (h, k)
      one c h k (suc j) d b = absurd (omega (arith, b))

  columns : kind_of core m ≡ LineBuf → IsColumnsOf core plan m l → ColumnsStand core m l
  columns lines of =
      let there = (lines_there core m lines).1 in
      let count = words core m there has.is_core in
      columns_of lines of (dims core m) refl (two core m there has.is_core (lines_there core m lines).0) count.0 count.1

pub plans_have_layouts : (core : PlainCore) (plan : PlainPlan) → PlansHaveLayouts core plan
plans_have_layouts core plan forms meets has m space l = (layouts core plan forms meets has m space l, columns core plan forms meets has m space l)
