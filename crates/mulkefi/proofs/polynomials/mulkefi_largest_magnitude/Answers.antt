-- `mulkefi::mulkefi_largest_magnitude` meets its contract.
use Rattle.std.proofs.Common.{refl}
use Rattle.float.proofs.LargestMagnitude.{magnitude_written_largest, magnitude_written_not_finite}
use Rattle.mulkefi.proofs.polynomials.mulkefi_largest_magnitude.Goals as goal

pub returns-in-Err : goal.returns-in-Err
returns-in-Err c = magnitude_written_not_finite _ _ _ c.in-Err.ensures _ refl

pub returns-in-Ok : goal.returns-in-Ok
returns-in-Ok c = magnitude_written_largest _ _ _ c.in-Ok.ensures _ refl
