-- What a turn reads stands behind what was read before (read_more).
use Rattle.std.proofs.Common.{◌≡◌, ℕ, ◌+◌, ◌≤◌, Option, List, ◌++◌, length, take, rules, refl, length-take-le}
use Rattle.std.proofs.Math.Seq.{take-append-add}
use Rattle.std.proofs.lemmas.List.{take-append-le}
use Rattle.std.proofs.KnownBytes.{Consumes-trans}
use Rattle.std.specs.Io.KnownBytes.{Consumes}
use Rattle.relay.proofs.read_job.Goals as goal

take_behind : (front part rest : List ℕ) (count more : ℕ) → length front ≡ count → more ≤ length part
    → take (count + more) (front ++ (part ++ rest)) ≡ front ++ take more part
take_behind front part rest count more e k =
    rw (← e, take-append-add front (part ++ rest) more, take-append-le more part rest k) refl

read_more : (a b d : Option (List ℕ)) (count more : ℕ) (buf part rest : List ℕ) → count ≤ length buf → more ≤ length part
    → Consumes a b (take count buf) → Consumes b d (take more part) → Consumes a d (take (count + more) (take count buf ++ (part ++ rest)))
read_more a b d count more buf part rest h k before now =
    rw (take_behind (take count buf) part rest count more (length-take-le count buf h) k) (Consumes-trans a b d _ _ before now)

pub loop-count-preserved : goal.loop-count-preserved
loop-count-preserved g c =
    let l = c.loop-count in
    let r = c.in_ok-more.ensures in
    record {
      within = search rules;
      bytes = read_more _ _ _ l.count c.in_ok-more.more l.buf c.read.new.buf _ l.invariant.within r.bound.0 l.invariant.bytes r.bytes.0;
    }
