-- Link and unlink, calls 4 and 5 (document 01, "Answer numbers" 2, 8, 9 and 12, and "Orders").
use Rattle.std.specs.Prelude.{ℕ, ◌+◌, List, get_or, set, eqb}
use Rattle.slabs.specs.Choice.{pick}
use Rattle.slabs.specs.PortEntry.{direction_word}
use Rattle.slabs.specs.Links.{link_at}
use Rattle.slabs.specs.declared.port_entry.Direction.{Direction}
use Rattle.edits.specs.Store.{port_at, on_port, on_link}
use Rattle.edits.specs.Answer.{Answer}
use Rattle.edits.specs.declared.answer.Refusal.TheVariants.{NoPort, SameDirection, AlreadyLinked, NotLinked}
use Rattle.edits.specs.Answer.{done}
use Rattle.std.specs.Prelude.{Err}

-- two live ports of these directions
abbrev pub pair_answer : List ℕ → ℕ → ℕ → Direction → Direction → Answer
pair_answer links a b direction facing =
    pick (eqb (direction_word direction) (direction_word facing))
    (Err (SameDirection a b (direction_word direction)))
    (pick (eqb (get_or links a 0) 0) (pick (eqb (get_or links b 0) 0) (done a b 0) (Err (AlreadyLinked b))) (Err (AlreadyLinked a)))

-- call 4. Code 2 names a also where b is the port that is not live
unfoldable pub link_answer : List ℕ → List ℕ → ℕ → ℕ → ℕ → Answer
link_answer owners links mark a b =
    on_port (port_at owners mark a)
    (λ here. on_port (port_at owners mark b) (λ there. pair_answer links a b here.direction there.direction) (Err (NoPort a)))
    (Err (NoPort a))

-- the link words with a wire between a and b
unfoldable pub joined : List ℕ → ℕ → ℕ → List ℕ
joined links a b = set (set links a (b + 1)) b (a + 1)

-- call 5
unfoldable pub unlink_answer : List ℕ → List ℕ → ℕ → ℕ → Answer
unlink_answer owners links mark port =
    on_port (port_at owners mark port)
    (λ here. on_link (link_at links port) (λ partner. done partner 0 0) (Err (NotLinked port)))
    (Err (NoPort port))
