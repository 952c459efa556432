-- What a state has of the memories that are visible.
use Rattle.std.proofs.Common.{◌≡◌, ℕ, ◌<◌, ◌≤◌, true, List, map, length, get_or, refl, sym, ◌∙◌, ap, subst, arith, All}
use Rattle.std.proofs.lemmas.List.{get_or-map}
use Rattle.sp_words.specs.declared.kind.Kind.{Kind}
use Rattle.sp_words.specs.declared.kind.Kind.TheVariants as kinds
use Rattle.sp_words.specs.declared.types.Ty.{Ty}
use Rattle.sp_words.specs.Interface.{IsCount, word_count}
use Rattle.sp_words.specs.Types.{width_of, int_type}
use Rattle.sp_words.specs.Words.{IsWord}
use Rattle.sp_tree.specs.declared.declaration.MemDecl.{MemDecl}
use Rattle.sp_tree.specs.Declarations.{HasRank}
use Rattle.sp_tree.specs.Expressions.{mem, dims}
use Rattle.sp_tree.specs.Plain.{plain_mem}
use Rattle.sp_tree.specs.PlainProgram.{PlainMem, no_mem}
use Rattle.sp_tree.specs.Streams.{room}
use Rattle.sp_tree.specs.Typing.{Scope, IsMem}
use Rattle.sp_seq.specs.declared.memory.Storage.{Storage}
use Rattle.sp_seq.specs.declared.memory.Storage.TheVariants.{Cells, Queue, Rows, Words}
use Rattle.sp_seq.specs.declared.state.State.{State}
use Rattle.sp_seq.specs.Rows.{WordRow, CellRow, WordQueue}
use Rattle.sp_seq.specs.States.{CellRows, AreRows, IsStorage, memory_of, Sees, Keeps, IsLive}
use Rattle.sp_seq.specs.Evaluating.{Setting}

pub sees_later : {mems : List PlainMem} {roomy : List ℕ} {scope : Scope} {s t : State} → Sees mems roomy scope s → Keeps s t → Sees mems roomy scope t
sees_later {mems = mems} {roomy = roomy} {scope = scope} {s = s} {t = t} h k = record {
  declared = h.declared;
  sizes = h.sizes;
  memories = k.in_memory.memories ∙ h.memories;
  stored = λ m l. k.in_memory.stored (mem mems m) (room mems roomy m) (mem mems m).kind m (h.stored m l);
  live = λ m c. ((h.live m c).0, k.in_memory.live m (h.live m c).1);
  values = λ v ty c. subst (λ ws. (v < length ws) × IsWord ty (get_or ws v 0)) (sym k.values) (h.values v ty c);
  counters = λ v c. subst (λ ws. (v < length ws) × IsWord int_type (get_or ws v 0)) (sym k.counts) (h.counters v c);
}

abbrev pub setting_later : {mems : List PlainMem} {s t : State} → Setting mems s → Keeps s t → Setting mems t
setting_later h k = record { program = h.program; same = h.same; scope = h.scope; roomy = h.roomy; sees = sees_later h.sees k }

pub keeps_on : (s t u : State) → Keeps s t → Keeps t u → Keeps s u
keeps_on s t u h k = record {
  in_memory = record {
    memories = k.in_memory.memories ∙ h.in_memory.memories;
    stored = λ d n kind m x. k.in_memory.stored d n kind m (h.in_memory.stored d n kind m x);
    live = λ m x. k.in_memory.live m (h.in_memory.live m x);
  };
  values = k.values ∙ h.values;
  counts = k.counts ∙ h.counts;
  left = omega arith;
}

pub keeps_same : (s : State) → Keeps s s
keeps_same s = record {
  in_memory = record { memories = refl; stored = λ d n kind m x. x; live = λ m x. x };
  values = refl;
  counts = refl;
  left = omega arith;
}

-- a visible memory of a kind and a type
pub record Seen (mems : List PlainMem) (roomy : List ℕ) (s : State) (m : ℕ) (kind : Kind) (ty : Ty) : Type 0 where
  pub inside : m < length mems
  pub is_kind : (mem mems m).kind ≡ kind
  pub is_type : (mem mems m).ty ≡ ty
  pub stored : IsStorage (mem mems m) (room mems roomy m) kind (memory_of s m).storage
  pub live : (memory_of s m).live ≡ true
  pub in_state : m < length s.memories.items

pub seen_mem : {mems : List PlainMem} {s : State} (h : Setting mems s) (m : ℕ) (kind : Kind) (ty : Ty) → IsMem h.program h.scope m kind ty → Seen mems h.roomy s m kind ty
seen_mem {mems = mems} {s = s} h m kind ty is =
    let k : (mem mems m).kind ≡ kind = subst (λ ms. (mem ms m).kind ≡ kind) h.same is.is_kind in
    let live = h.sees.live m is.seen in
    let all = h.sees.memories in
    record {
      inside = live.0;
      is_kind = k;
      is_type = subst (λ ms. (mem ms m).ty ≡ ty) h.same is.is_type;
      stored = subst (λ x. IsStorage (mem mems m) (room mems h.roomy m) x (memory_of s m).storage) k (h.sees.stored m live.0);
      live = live.1;
      in_state = omega arith;
    }

-- what is stored, by kinds
reg_cells : (d : PlainMem) (n : ℕ) (st : Storage) → IsStorage d n kinds.Reg st → (c : CellRow) × (st ≡ Cells c) × (c.width ≡ width_of d.ty) × (length c.cells ≡ 1)
reg_cells d n (Cells c) h = (c, refl, h.0, h.1)
reg_cells d n (Queue q) h = absurd h
reg_cells d n (Rows r) h = absurd h
reg_cells d n (Words w) h = absurd h

sram_cells : (d : PlainMem) (n : ℕ) (st : Storage) → IsStorage d n kinds.Sram st → (c : CellRow) × (st ≡ Cells c) × (c.width ≡ width_of d.ty) × (length c.cells ≡ word_count d.dims)
sram_cells d n (Cells c) h = (c, refl, h.0, h.1)
sram_cells d n (Queue q) h = absurd h
sram_cells d n (Rows r) h = absurd h
sram_cells d n (Words w) h = absurd h

fifo_queue : (d : PlainMem) (n : ℕ) (st : Storage) → IsStorage d n kinds.Fifo st → (q : WordQueue) × (st ≡ Queue q) × (q.width ≡ width_of d.ty) × (q.room ≡ n)
fifo_queue d n (Queue q) h = (q, refl, h.0, h.1)
fifo_queue d n (Cells c) h = absurd h
fifo_queue d n (Rows r) h = absurd h
fifo_queue d n (Words w) h = absurd h

line_rows : (d : PlainMem) (n : ℕ) (st : Storage) → IsStorage d n kinds.LineBuf st → (rs : CellRows) × (st ≡ Rows rs) × AreRows (width_of d.ty) d.dims rs.items
line_rows d n (Rows r) h = (r, refl, h)
line_rows d n (Cells c) h = absurd h
line_rows d n (Queue q) h = absurd h
line_rows d n (Words w) h = absurd h

dram_words : (d : PlainMem) (n : ℕ) (st : Storage) → IsStorage d n kinds.Dram st → (w : WordRow) × (st ≡ Words w) × (w.width ≡ width_of d.ty) × (length w.words ≡ word_count d.dims)
dram_words d n (Words w) h = (w, refl, h.0, h.1)
dram_words d n (Cells c) h = absurd h
dram_words d n (Queue q) h = absurd h
dram_words d n (Rows r) h = absurd h

arg_words : (d : PlainMem) (n : ℕ) (st : Storage) → IsStorage d n kinds.ArgIn st → (w : WordRow) × (st ≡ Words w) × (w.width ≡ width_of d.ty) × (length w.words ≡ 1)
arg_words d n (Words w) h = (w, refl, h.0, h.1)
arg_words d n (Cells c) h = absurd h
arg_words d n (Queue q) h = absurd h
arg_words d n (Rows r) h = absurd h

out_words : (d : PlainMem) (n : ℕ) (st : Storage) → IsStorage d n kinds.ArgOut st → (w : WordRow) × (st ≡ Words w) × (w.width ≡ width_of d.ty) × (length w.words ≡ 1)
out_words d n (Words w) h = (w, refl, h.0, h.1)
out_words d n (Cells c) h = absurd h
out_words d n (Queue q) h = absurd h
out_words d n (Rows r) h = absurd h

module _ {mems : List PlainMem} {roomy : List ℕ} {s : State} {m : ℕ} {ty : Ty} where
  wide : {kind : Kind} → Seen mems roomy s m kind ty → (w : ℕ) → w ≡ width_of (mem mems m).ty → w ≡ width_of ty
  wide h w e = e ∙ ap width_of h.is_type

  pub live_reg : Seen mems roomy s m kinds.Reg ty → (c : CellRow) × IsLive s m (Cells c) × (c.width ≡ width_of ty) × (length c.cells ≡ 1)
  live_reg h =
      let x = reg_cells (mem mems m) (room mems roomy m) (memory_of s m).storage h.stored in
      (x.0, record { inside = h.in_state; live = h.live; is = x.1 }, wide h _ x.2, x.3)

  pub live_sram : Seen mems roomy s m kinds.Sram ty → (c : CellRow) × IsLive s m (Cells c) × (c.width ≡ width_of ty) × (length c.cells ≡ word_count (dims mems m))
  live_sram h =
      let x = sram_cells (mem mems m) (room mems roomy m) (memory_of s m).storage h.stored in
      (x.0, record { inside = h.in_state; live = h.live; is = x.1 }, wide h _ x.2, x.3)

  pub live_fifo : Seen mems roomy s m kinds.Fifo ty → (q : WordQueue) × IsLive s m (Queue q) × (q.width ≡ width_of ty) × (q.room ≡ room mems roomy m)
  live_fifo h =
      let x = fifo_queue (mem mems m) (room mems roomy m) (memory_of s m).storage h.stored in
      (x.0, record { inside = h.in_state; live = h.live; is = x.1 }, wide h _ x.2, x.3)

  pub live_rows : Seen mems roomy s m kinds.LineBuf ty → (rs : CellRows) × IsLive s m (Rows rs) × AreRows (width_of ty) (dims mems m) rs.items
  live_rows h =
      let x = line_rows (mem mems m) (room mems roomy m) (memory_of s m).storage h.stored in
      (x.0, record { inside = h.in_state; live = h.live; is = x.1 }, subst (λ t. AreRows (width_of t) (dims mems m) x.0.items) h.is_type x.2)

  pub live_dram : Seen mems roomy s m kinds.Dram ty → (w : WordRow) × IsLive s m (Words w) × (w.width ≡ width_of ty) × (length w.words ≡ word_count (dims mems m))
  live_dram h =
      let x = dram_words (mem mems m) (room mems roomy m) (memory_of s m).storage h.stored in
      (x.0, record { inside = h.in_state; live = h.live; is = x.1 }, wide h _ x.2, x.3)

  pub live_arg : Seen mems roomy s m kinds.ArgIn ty → (w : WordRow) × IsLive s m (Words w) × (w.width ≡ width_of ty) × (length w.words ≡ 1)
  live_arg h =
      let x = arg_words (mem mems m) (room mems roomy m) (memory_of s m).storage h.stored in
      (x.0, record { inside = h.in_state; live = h.live; is = x.1 }, wide h _ x.2, x.3)

  pub live_out : Seen mems roomy s m kinds.ArgOut ty → (w : WordRow) × IsLive s m (Words w) × (w.width ≡ width_of ty) × (length w.words ≡ 1)
  live_out h =
      let x = out_words (mem mems m) (room mems roomy m) (memory_of s m).storage h.stored in
      (x.0, record { inside = h.in_state; live = h.live; is = x.1 }, wide h _ x.2, x.3)

-- the declaration of a number
pub decl_at : (decls : List MemDecl) (m : ℕ) (x : MemDecl) → m < length decls → x ≡ get_or decls m x → mem (map plain_mem decls) m ≡ plain_mem x
decl_at decls m x l e = get_or-map plain_mem decls m x no_mem l ∙ ap plain_mem (sym e)

pub decl_get : (decls : List MemDecl) (m : ℕ) (d : MemDecl) → m < length decls → mem (map plain_mem decls) m ≡ plain_mem (get_or decls m d)
decl_get decls m d l = get_or-map plain_mem decls m d no_mem l

pub dims_at : (decls : List MemDecl) (m : ℕ) (d : MemDecl) → m < length decls → dims (map plain_mem decls) m ≡ (get_or decls m d).dims.items
dims_at decls m d l = ap (λ (x : PlainMem). x.dims) (get_or-map plain_mem decls m d no_mem l)

-- the dimensions of a visible memory
pub counts_of : {mems : List PlainMem} {s : State} (h : Setting mems s) (m : ℕ) → m < length mems → All IsCount (dims mems m)
counts_of h m l = (h.sees.declared m no_mem l).dims

pub sram_rank : {mems : List PlainMem} {s : State} (h : Setting mems s) (m : ℕ) (ty : Ty) → Seen mems h.roomy s m kinds.Sram ty → length (dims mems m) ≤ 3
sram_rank {mems = mems} h m ty x =
    let rank = subst (λ k. HasRank k (length (dims mems m))) x.is_kind (h.sees.declared m no_mem x.inside).rank in
    rank.1

pub dram_rank : {mems : List PlainMem} {s : State} (h : Setting mems s) (m : ℕ) (ty : Ty) → Seen mems h.roomy s m kinds.Dram ty → length (dims mems m) ≤ 3
dram_rank {mems = mems} h m ty x =
    let rank = subst (λ k. HasRank k (length (dims mems m))) x.is_kind (h.sees.declared m no_mem x.inside).rank in
    rank.1
