-- What a stamp says of the row that it is added to.
use Rattle.time.specs.declared.stamp.Stamp.{Stamp}
use Rattle.time.specs.declared.stamp.Stamp.TheVariants.{Static, At}
use Rattle.buffer.specs.declared.kind.Kind.{Kind}
use Rattle.buffer.specs.declared.kind.Kind.TheVariants as kind

abbrev pub kind_of : Stamp → Kind
kind_of Static = kind.Static
kind_of (At i) = kind.Dynamic
