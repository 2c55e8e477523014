-- Clear, call 0 (document 01, under the table of the calls): nothing but zeros in the tables and in the counters.
use Rattle.std.specs.Prelude.{length}
use Rattle.slabs.specs.Counters.{none_counted}
use Rattle.slabs.specs.Slab.{filled}
use Rattle.edits.specs.Store.{Store}

unfoldable pub cleared : Store → Store
cleared s =
    record {
      slots = filled s.slots 0 (length s.slots) 0;
      links = filled s.links 0 (length s.links) 0;
      owners = filled s.owners 0 (length s.owners) 0;
      heads = filled s.heads 0 (length s.heads) 0;
      counters = none_counted;
    }
