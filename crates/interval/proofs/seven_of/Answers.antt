-- `seven_of` meets its contract.
use Rattle.std.proofs.Common.{◌≡◌, List, ◌∷◌, length, get_or, ℤ, pos, ap, to_z-of_z, w32, SFits, rules}
use Rattle.tracking.proofs.Slots.{six_all}
use Rattle.interval.specs.Close.{seven_of}
use Rattle.interval.proofs.seven_of.Goals as goal

pub returns : goal.returns
unfolding seven_of
returns c =
    let f = c.args.f in
    let l : length f ≡ 6 = search rules in
    let h0 : SFits w32 (get_or f 0 (pos 0)) = search rules in
    let h1 : SFits w32 (get_or f 1 (pos 0)) = search rules in
    let h2 : SFits w32 (get_or f 2 (pos 0)) = search rules in
    let h3 : SFits w32 (get_or f 3 (pos 0)) = search rules in
    let h4 : SFits w32 (get_or f 4 (pos 0)) = search rules in
    let h5 : SFits w32 (get_or f 5 (pos 0)) = search rules in
    rw (to_z-of_z c.ranges.v, to_z-of_z h0, to_z-of_z h1, to_z-of_z h2, to_z-of_z h3, to_z-of_z h4, to_z-of_z h5)
    (ap (λ (xs : List ℤ). c.args.v ∷ xs) (six_all f l))
