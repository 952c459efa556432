-- Accesses with the controllers around them, without where they lie in memory.
use Rattle.std.specs.Prelude.{List, map, flat_map, take, drop}
use Rattle.sp_deps.specs.declared.access.Access.{Access}
use Rattle.sp_deps.specs.declared.access.Footprint.{Footprint}
use Rattle.sp_deps.specs.Access.{plain_access}
use Rattle.sp_meets.specs.declared.spot.Level.{Level}
use Rattle.sp_meets.specs.declared.spot.Target.{Target}
use Rattle.sp_meets.specs.declared.spot.Spot.{Spot}
use Rattle.sp_meets.specs.declared.view.Touch.{Touch}
use Rattle.sp_meets.specs.declared.view.View.{View}
use Rattle.sp_meets.specs.declared.view.Site.{Site}
use Rattle.sp_meets.specs.Around.{PlainLevel}
use Rattle.sp_meets.specs.Spots.{PlainTarget, PlainSpot}
use Rattle.sp_meets.specs.Sites.{PlainTouch, PlainPart, PlainView, PlainSite}

abbrev pub plain_level : Level → PlainLevel
plain_level l = record { part = l.part; loops = l.loops.items; at_once = l.at_once; streams = l.streams; copied = l.copied.items; changed = l.changed.items }

abbrev pub plain_path : List Level → List PlainLevel
plain_path path = map plain_level path

abbrev pub plain_target : Target → PlainTarget
plain_target t = record { mem = t.mem; writes = t.writes; places = t.places; sizes = t.sizes.items }

abbrev pub plain_spot : Spot → PlainSpot
plain_spot s = record { number = s.number; path = plain_path s.path.items; targets = map plain_target s.targets.items; spans = s.spans.items; lengths = s.lengths }

abbrev pub plain_spots : List Spot → List PlainSpot
plain_spots spots = map plain_spot spots

-- a part of a body as each of its accesses
abbrev pub plain_parts : Footprint → List PlainPart
plain_parts f = map (λ (a : Access). record { access = plain_access a; common = take f.common f.loops.items; own = drop f.common f.loops.items }) f.accesses.items

abbrev pub plain_view : View → PlainView
plain_view v = record { part = v.part; at_once = v.at_once; streams = v.streams; copied = v.copied.items; parts = flat_map plain_parts v.parts.items }

abbrev pub plain_site : Site → PlainSite
plain_site s = record { number = s.number; views = map plain_view s.views.items }

abbrev pub plain_touch : Touch → PlainTouch
plain_touch t = record { access = plain_access t.access; own = t.own.items }
