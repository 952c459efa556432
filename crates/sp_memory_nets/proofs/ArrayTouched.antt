-- The memory in banks to which is done what accesses do to an SRAM.
use Rattle.std.proofs.Common.{◌≡◌, ℕ, List, map, ap, ◌∙◌}
use Rattle.std.specs.List.{filter}
use Rattle.sp_core.specs.declared.operation.OpKind.TheVariants.{Write}
use Rattle.sp_core.specs.PlainCore.{PlainCore}
use Rattle.sp_plan.specs.PlainPlan.{PlainPlan}
use Rattle.sp_mem.specs.declared.part.Touch.{Touch}
use Rattle.sp_banked.specs.declared.part.Banked.{Banked}
use Rattle.sp_access_nets.specs.declared.access.AccessNets.{AccessNets}
use Rattle.sp_access_nets.specs.Picking.{is_to}
use Rattle.sp_memory_nets.specs.ScalarLists.{is_reader}
use Rattle.sp_memory_nets.specs.ArrayArrays.{HasShapeOf, IsArrayOf}
use Rattle.sp_memory_nets.specs.ArrayTouches.{IsReadBy, IsWriteBy, PlainTouch, plain_touch, write_of, read_of, writes_to, reads_to}
use Rattle.sp_memory_nets.proofs.ArrayZipping.{zip_of}

write_by : (a : AccessNets) (t : Touch) → plain_touch t ≡ write_of a → IsWriteBy a t
write_by a t e = record {
  enable = ap (λ (p : PlainTouch). p.enable) e;
  index = ap (λ (p : PlainTouch). p.index) e;
  word = ap (λ (p : PlainTouch). p.word) e;
  copy = ap (λ (p : PlainTouch). p.copy) e;
}

read_by : (core : PlainCore) (plan : PlainPlan) (a : AccessNets) (t : Touch) → plain_touch t ≡ read_of core plan a → IsReadBy core plan a t
read_by core plan a t e = record {
  enable = ap (λ (p : PlainTouch). p.enable) e;
  index = ap (λ (p : PlainTouch). p.index) e;
  copy = ap (λ (p : PlainTouch). p.copy) e;
  word = ap (λ (p : PlainTouch). p.word) e;
  duplicate = ap (λ (p : PlainTouch). p.duplicate) e;
}

pub array_is : (core : PlainCore) (plan : PlainPlan) (accesses : List AccessNets) (m : ℕ) (part : Banked) (writes reads : List Touch) → HasShapeOf core plan m part
    → part.writes.items ≡ writes → part.reads.items ≡ reads → map plain_touch writes ≡ writes_to m accesses → map plain_touch reads ≡ reads_to core plan m accesses → IsArrayOf core plan accesses m part
array_is core plan accesses m part writes reads h w r ws rs = record {
  layout = h.layout;
  ty = h.ty;
  copies = h.copies;
  duplicates = h.duplicates;
  writes = zip_of IsWriteBy write_of plain_touch write_by (filter (is_to m Write) accesses) part.writes.items (ap (map plain_touch) w ∙ ws);
  reads = zip_of (IsReadBy core plan) (read_of core plan) plain_touch (read_by core plan) (filter (is_reader m) accesses) part.reads.items (ap (map plain_touch) r ∙ rs);
}

pub shape_of : (core : PlainCore) (plan : PlainPlan) (accesses : List AccessNets) (m : ℕ) (part : Banked) → IsArrayOf core plan accesses m part → HasShapeOf core plan m part
shape_of core plan accesses m part is = record { layout = is.layout; ty = is.ty; copies = is.copies; duplicates = is.duplicates }
