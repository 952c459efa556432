use Rattle.std.proofs.Common.{◌∙◌, ◌-◌, ap, arith}
use Rattle.std.proofs.lemmas.List.{length-map}
use Rattle.sp_setup.specs.NumberText.{parts_of}
use Rattle.sp_setup.specs.Reading.{parts_reading}
use Rattle.sp_setup.proofs.ReadingLemmas.{parts_reading-none, parts_reading-great, parts_reading-long, parts_reading-number, number_reading-same}
use Rattle.sp_setup.proofs.reading.read_number_text.Goals as goal

pub returns-in_default : goal.returns-in_default
returns-in_default c = parts_reading-none c.args.ty ∙ ap (parts_reading c.args.ty) c.in_default.ensures.parts

pub returns-in_default-whole_number : goal.returns-in_default-whole_number
returns-in_default-whole_number c =
    parts_reading-great c.args.ty (parts_of c.in-Some.text) c.in_default-whole_number.ensures.number ∙ ap (parts_reading c.args.ty) c.in-Some.ensures.parts

pub returns-then-text-gt-MOST_DIGITS : goal.returns-then-text-gt-MOST_DIGITS
returns-then-text-gt-MOST_DIGITS c =
    let size = length-map c.in-Some.text.fraction.now (λ byte. byte - 48) in
    let same = c.in-Some-whole_number.ensures.number in
    let fits = c.in-Some-whole_number.ensures.fits in
    parts_reading-long c.args.ty (parts_of c.in-Some.text) (omega (arith, same, fits)) (omega (arith, size)) ∙ ap (parts_reading c.args.ty) c.in-Some.ensures.parts

pub returns : goal.returns
returns c =
    let size = length-map c.in-Some.text.fraction.now (λ byte. byte - 48) in
    let same = c.in-Some-whole_number.ensures.number in
    let fits = c.in-Some-whole_number.ensures.fits in
    c.read_number.ensures
    ∙ number_reading-same c.args.ty c.in-Some.text.negative _ _ _ _ same (c.deref.ensures.value ∙ c.in_ok-digits.ensures)
    ∙ parts_reading-number c.args.ty (parts_of c.in-Some.text) (omega (arith, same, fits)) (omega (arith, size))
    ∙ ap (parts_reading c.args.ty) c.in-Some.ensures.parts
