-- The contracts of private functions, which nothing outside needs: how a level's roots lie in a buffer. Definitions only.
use Rattle.std.specs.Prelude.{List, [], ◌≡◌, length, take, Float}
use Rattle.bernstein.specs.Roots.{RootsResult, found, refused, answer_of}
use Rattle.bernstein.specs.Answers.{Answer}

unfoldable pub list_of : RootsResult → List Float
list_of (found l b) = l
list_of (refused w b) = []

-- what was found lies at the front
pub record RootsAtFront (o : RootsResult) (later : List Float) (r : Answer) : Type 0 where
  pub answer : r ≡ answer_of o
  pub front : take (length (list_of o)) later ≡ list_of o
