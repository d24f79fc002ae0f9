-- Plugs: bios that wait, neighbours in one request where the second runs on at the back of the first.
-- After the plug of Linux's block layer, which merges a bio into a request that it runs on from.
use Rattle.std.specs.Prelude.{◌≡◌, ℕ, ◌+◌, ◌≤◌, List, [], ◌∷◌, ◌++◌, length, map, flat_map, sum_by, slice_set}
use Rattle.std.specs.List.{AllByRecursion}
use Rattle.bc_key.specs.KeyData.{KeyData}
use Rattle.bc_bio.specs.declared.marked_bio.MarkedBio.{MarkedBio}
use Rattle.bc_bio.specs.declared.bio.Bio.{Bio}
use Rattle.bc_bio.specs.Chunks.{chunks_and}
use Rattle.bc_bio.specs.Windows.{TaggedBio, IsRequest, joins, requests_of}
use Rattle.bc_bio.specs.Requests.{RequestParts, tagged_bios, tagged_of, unmarked}
use Rattle.bc_queue.specs.declared.plug.TheConstants.{MAX_PLUGGED}

-- a plug: its requests, and how many bios were plugged
pub record PlugParts : Type 0 where
  pub requests : List RequestParts
  pub count : ℕ

-- a plug without bios
abbrev pub no_bios : PlugParts
no_bios = record { requests = []; count = 0 }

-- the bios of all requests, in order
abbrev pub bios_in : List RequestParts → List MarkedBio
bios_in requests = flat_map (λ request. request.bios) requests

-- how many bios the requests have together
abbrev pub count_bios : List RequestParts → ℕ
count_bios requests = sum_by (λ request. length request.bios) requests

-- each request by the tags and extents of its bios
abbrev pub tagged_requests : List RequestParts → List (List TaggedBio)
tagged_requests requests = map (λ request. tagged_bios request.bios) requests

-- the requests are those that this window of bios makes
abbrev pub IsOfWindow : List KeyData → List RequestParts → List TaggedBio → Type 0
IsOfWindow keys requests window = tagged_requests requests ≡ requests_of keys window

-- a request has bios, and room for all that may still be plugged
pub record IsWaiting (request : RequestParts) : Type 0 where
  pub some : 1 ≤ length request.bios
  pub room : MAX_PLUGGED ≤ length request.bios + request.spare

-- a plug as its calls leave it, and as it still is when each request has the same bios and the same room
pub record IsPlug (plug : PlugParts) : Type 0 where
  pub waiting : AllByRecursion IsWaiting plug.requests
  pub count : plug.count ≡ count_bios plug.requests
  pub most : plug.count ≤ MAX_PLUGGED

-- each request is one under these keys
abbrev pub AreRequests : List KeyData → List RequestParts → Type 0
AreRequests keys requests = AllByRecursion (λ request. IsRequest keys (tagged_bios request.bios)) requests

-- a plug with another request in this place
abbrev pub with_request : ℕ → PlugParts → RequestParts → PlugParts
with_request n plug request = record plug { requests = slice_set plug.requests n request }

-- Private: the requests with a bio more, in the last one or in one of its own.
pub record Added (keys : List KeyData) (old new : List RequestParts) (bio : Bio) : Type 0 where
  pub bios : bios_in new ≡ bios_in old ++ unmarked bio ∷ []
  pub merges : tagged_requests new ≡ chunks_and (joins keys) (tagged_requests old) (tagged_of bio)
  pub waiting : AllByRecursion IsWaiting new
  pub requests : AreRequests keys new
  pub count : count_bios new ≡ count_bios old + 1

-- Private: the bio runs on at the back of no last one.
abbrev pub StandsApart : List KeyData → List RequestParts → Bio → Type 0
StandsApart keys requests bio =
    chunks_and (joins keys) (tagged_requests requests) (tagged_of bio) ≡ tagged_requests requests
    ++ (tagged_of bio ∷ []) ∷ []

-- Private: an empty request with room for all bios of a plug.
pub record IsReady (request : RequestParts) : Type 0 where
  pub empty : request.bios ≡ []
  pub room : MAX_PLUGGED ≤ request.spare

-- Private: what a plug keeps beside its requests.
pub record HasReady (requests ready : List RequestParts) (room ready_room : ℕ) : Type 0 where
  pub all : length requests + length ready ≡ MAX_PLUGGED
  pub are_ready : AllByRecursion IsReady ready
  pub room_for_all : MAX_PLUGGED ≤ room
  pub ready_room_for_all : MAX_PLUGGED ≤ ready_room
