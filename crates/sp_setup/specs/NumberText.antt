-- What the parts that the code finds of a number text stand for.
use Rattle.sp_setup.specs.declared.number.NumberText.{NumberText}
use Rattle.sp_setup.specs.Number.{NumberParts, digits_of}

abbrev pub parts_of : NumberText → NumberParts
parts_of t = record { negative = t.negative; whole = digits_of t.whole.now; fraction = digits_of t.fraction.now }
