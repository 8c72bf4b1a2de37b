-- lists_in w    the waiting lists of all threads, as the plain kinds hold them
use Rattle.buffers.specs.Lists.{Lists}
use Rattle.buffers.specs.declared.waiting.Waiting.{Waiting}

abbrev pub lists_in : Waiting → Lists
lists_in w = w.rows
