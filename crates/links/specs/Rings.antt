-- Which ring an end is of.
use Rattle.std.specs.declared.alloc.Global.{Global}
use Rattle.rtrb.specs.declared.producer.Producer.{Producer}
use Rattle.rtrb.specs.declared.consumer.Consumer.{Consumer}
use Rattle.links.specs.Links.{RingName}

module _ {T P : Type 0} where
  abbrev pub producer_ring : Producer T Global P → RingName
  producer_ring p = record { words = p.end.words; slots = p.end.slots; names = p.end.names; heap = p.end.heap }

  abbrev pub consumer_ring : Consumer T Global P → RingName
  consumer_ring c = record { words = c.end.words; slots = c.end.slots; names = c.end.names; heap = c.end.heap }
