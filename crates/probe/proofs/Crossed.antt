-- What is answered of two shapes, one law for each number of crossings.
use Rattle.std.proofs.Common.{◌≡◌, List}
use lib.Ieee.{Float}
use Rattle.geom.specs.declared.Vec2.{Vec2}
use Rattle.shape.specs.declared.Crossings.{Crossings}
use Rattle.shape.specs.declared.Crossings.TheVariants.{Zero, One, Two}
use Rattle.probe.specs.Shapes.{set_point, Crossed}

pub crossed_none : (x : Crossings) (out : List Float) → x ≡ Zero → Crossed x out out 0
crossed_none x out e = record { number = rw e; buffer = rw e }

pub crossed_once : (x : Crossings) (out : List Float) (p : Vec2) → x ≡ One p → Crossed x out (set_point out 0 p) 1
crossed_once x out p e = record { number = rw e; buffer = rw e }

pub crossed_twice : (x : Crossings) (out : List Float) (p q : Vec2) → x ≡ Two p q → Crossed x out (set_point (set_point out 0 p) 2 q) 2
crossed_twice x out p q e = record { number = rw e; buffer = rw e }
