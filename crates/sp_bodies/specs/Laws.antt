-- Laws of bodies with stages, as statements.
use Rattle.std.specs.Prelude.{◌≡◌, ℕ, ◌+◌, false, List, ◌++◌, length, Contains}
use Rattle.sp_words.specs.declared.kind.Style.{Style}
use Rattle.sp_tree.specs.PlainProgram.{PlainProgram}
use Rattle.sp_tree.specs.PlainStatement.{PlainStmts}
use Rattle.sp_tree.specs.Structure.{mems_declared, is_inner}
use Rattle.sp_tree.specs.Typing.{BodyTyped}
use Rattle.sp_core.specs.Declarations.{is_stream}
use Rattle.sp_core.specs.PlainCore.{PlainCore}
use Rattle.sp_sugar.specs.Agreement.{HasMemories, View, Apart}
use Rattle.sp_sugar.specs.Registers.{registers}
use Rattle.sp_sugar.specs.Uses.{no_more}
use Rattle.sp_same.specs.Following.{SourcesSeen, AreSpare, IsOwn, BodyFollowedRightly, alone}
use Rattle.sp_bodies.specs.Bodies.{HaveRoomsAlike, AreDeclared, AreStagesFollowed}

-- where its controllers and transfers are followed, wherever they stand, so is a typed body with stages that is no stream
-- block's: its registers are spare, and its memories are its own
abbrev pub IsBodyFollowed : PlainProgram → (roomy : List ℕ) → PlainCore → PlainStmts → Type 0
IsBodyFollowed p roomy core body =
    (most : ℕ) (view : View) (n : ℕ) (style : Style)
    → HasMemories p core → HaveRoomsAlike p roomy core → is_stream style ≡ false → is_inner body ≡ false → BodyTyped p view.scope body → SourcesSeen view.scope view.sources
    → AreSpare n (n + length (registers body no_more)) view → AreDeclared p core n (registers body no_more)
    → ((m : ℕ) → Contains (mems_declared body) m → IsOwn p view.scope m) → Apart (mems_declared body ++ view.waiting) → ((m : ℕ) → view.resets m ≡ false)
    → AreStagesFollowed p roomy core body → BodyFollowedRightly p core roomy most view (alone p view.sources n style body) body
