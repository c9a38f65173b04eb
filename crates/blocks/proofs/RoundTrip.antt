-- Writing then reading gives the same problem; a file that reads is written back byte by byte; two files that read as one problem are equal.
use Rattle.std.proofs.Common.{◌≡◌, ℕ, ◌*◌, ◌≤◌, List, length, take, sym, refl, ap, ◌∙◌, subst, arith}
use Rattle.lists.proofs.Puts.{put_take}
use Rattle.std.specs.Prelude.{Result, Ok}
use Rattle.checker.specs.declared.refusal.Refusal.{Refusal}
use Rattle.problem.specs.Lent.{stride, fields, word_count, rule_count}
use Rattle.blocks.specs.declared.Problem.{Problem}
use Rattle.lists.specs.Lists.{put}
use Rattle.blocks.specs.Edition.{edition1}
use Rattle.blocks.specs.Written.{encode, IsFile, Slices}
use Rattle.blocks.specs.Promise.{Room, problem_of, Reads, Writes}
use Rattle.blocks.proofs.Passed.{passed}
use Rattle.blocks.proofs.Promise.{read_once, write_once}

pub write_read : {limit k : ℕ} {ws bs f g a b y z : List ℕ} {r : Result Problem Refusal} → Slices ws bs → Writes edition1 limit ws bs f g (Ok k) → Room a b
    → Reads edition1 (take k g) a b y z r → (r ≡ Ok (problem_of limit ws bs)) × (y ≡ put a 0 ws) × (z ≡ put b 0 bs)
write_read {limit} {k} {ws} {bs} {f} u (Writes.ok room j e p) lent x =
    let same = ap (take k) p ∙ put_take f (encode edition1 limit ws bs) k (sym e) in
    read_once x (Reads.ok lent (record { storable = passed u j; same = same }) j refl refl refl)

-- what was read: the problem's numbers stand in front of the lent ones
pub record Kept (f y z : List ℕ) (x : Problem) : Type 0 where
  pub is : IsFile edition1 x.limit (take (stride * x.words) y) (take (fields * x.rules) z) f
  pub fine : edition1.judge x.limit (take (stride * x.words) y) (take (fields * x.rules) z) ≡ Ok tt

pub read_kept : {f a b y z : List ℕ} {x : Problem} → Reads edition1 f a b y z (Ok x) → Kept f y z x
read_kept {f} {a} {b} {y} {z} (Reads.ok {limit = limit} {ws = ws} {bs = bs} {x = x} room is j e p q) =
    let s = is.storable.sized in
    let w : take (stride * word_count ws) y ≡ ws = ap (take (stride * word_count ws)) p ∙ put_take a ws (3 * word_count ws) (omega (arith, s.whole_words)) in
    let r : take (fields * rule_count bs) z ≡ bs = ap (take (fields * rule_count bs)) q ∙ put_take b bs (6 * rule_count bs) (omega (arith, s.whole_rules)) in
    subst (Kept f y z) (sym e) (record { is = rw (w, r) is; fine = rw (w, r) j })

pub read_write : {f a b y z h g : List ℕ} {x : Problem} {s : Result ℕ Refusal} → Reads edition1 f a b y z (Ok x) → length f ≤ length h
    → Writes edition1 x.limit (take (stride * x.words) y) (take (fields * x.rules) z) h g s
    → (s ≡ Ok (length f)) × (g ≡ put h 0 f)
read_write {h = h} t room v =
    let k = read_kept t in
    let e = k.is.same in
    write_once v (Writes.ok (rw (← e) room) k.fine (ap length e) (ap (put h 0) e))

-- two files that read as one problem are equal
pub one_file : {f f' a b y z a' b' y' z' : List ℕ} {x : Problem} → Reads edition1 f a b y z (Ok x) → Reads edition1 f' a' b' y' z' (Ok x)
    → take (stride * x.words) y ≡ take (stride * x.words) y' → take (fields * x.rules) z ≡ take (fields * x.rules) z' → f ≡ f'
one_file {x = x} t t' p q =
    (read_kept t).is.same ∙ cc (p, q) ∙ sym (read_kept t').is.same
