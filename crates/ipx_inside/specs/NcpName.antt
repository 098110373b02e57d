-- The names of NCP functions, as NetWare's published documentation has them.
use Rattle.std.specs.Prelude.{ℕ, ◌==◌, if◌then◌else◌, List, [], codes}
use Rattle.ipx_inside.specs.declared.ncp.Sub.{Sub}
use Rattle.ipx_inside.specs.declared.ncp.Sub.TheVariants.{Absent, Cut, Number}

-- of a function without subfunctions
abbrev pub plain_name : ℕ → List ℕ
plain_name function =
    if function == 18 then codes "Get Volume Info with Number" else
    if function == 20 then codes "Get File Server Date And Time" else
    if function == 24 then codes "End of Job" else
    if function == 25 then codes "Logout" else
    if function == 33 then codes "Negotiate Buffer Size" else
    if function == 64 then codes "Search for a File" else
    if function == 65 then codes "Open File" else
    if function == 66 then codes "Close File" else
    if function == 67 then codes "Create File" else
    if function == 68 then codes "Erase File" else
    if function == 69 then codes "Rename File" else
    if function == 70 then codes "Set File Attributes" else
    if function == 71 then codes "Get Current Size of File" else
    if function == 72 then codes "Read From A File" else
    if function == 73 then codes "Write to a File" else
    if function == 97 then codes "Get Big Packet NCP Max Packet Size" else
    if function == 101 then codes "Packet Burst Connection Request" else []

-- of messages to other clients
abbrev pub message_name : ℕ → List ℕ
message_name number =
    if number == 0 then codes "Send Broadcast Message" else
    if number == 1 then codes "Get Broadcast Message" else []

-- of directories
abbrev pub directory_name : ℕ → List ℕ
directory_name number =
    if number == 0 then codes "Set Directory Handle" else
    if number == 1 then codes "Get Directory Path" else
    if number == 3 then codes "Get Effective Directory Rights" else
    if number == 5 then codes "Get Volume Number" else
    if number == 6 then codes "Get Volume Name" else
    if number == 10 then codes "Create Directory" else
    if number == 11 then codes "Delete Directory" else
    if number == 19 then codes "Alloc Temporary Directory Handle" else
    if number == 20 then codes "Deallocate Directory Handle" else
    if number == 21 then codes "Get Volume Info with Handle" else
    if number == 30 then codes "Scan a Directory" else []

-- of the server and its bindery
abbrev pub server_name : ℕ → List ℕ
server_name number =
    if number == 17 then codes "Get File Server Information" else
    if number == 20 then codes "Login Object" else
    if number == 22 then codes "Get Station's Logged Info" else
    if number == 23 then codes "Get Login Key" else
    if number == 24 then codes "Keyed Object Login" else
    if number == 26 then codes "Get Internet Address" else
    if number == 28 then codes "Get Station's Logged Info" else
    if number == 53 then codes "Get Bindery Object ID" else
    if number == 54 then codes "Get Bindery Object Name" else
    if number == 55 then codes "Scan Bindery Object" else
    if number == 61 then codes "Read Property Value" else
    if number == 70 then codes "Get Bindery Access Level" else
    if number == 107 then codes "Get Queue Job List" else []

-- of files and directories of any name space
abbrev pub file_name : ℕ → List ℕ
file_name number =
    if number == 1 then codes "Open/Create File or Subdirectory" else
    if number == 2 then codes "Initialize Search" else
    if number == 3 then codes "Search for File or Subdirectory" else
    if number == 6 then codes "Obtain File or SubDirectory Information" else
    if number == 8 then codes "Delete a File or Subdirectory" else []

-- of directory services
abbrev pub directory_services_name : ℕ → List ℕ
directory_services_name number =
    if number == 1 then codes "Ping for NDS NCP" else
    if number == 2 then codes "Send NDS Fragmented Request/Reply" else []

-- of a function with subfunctions
abbrev pub sub_name : ℕ → ℕ → List ℕ
sub_name function number =
    if function == 21 then message_name number else
    if function == 22 then directory_name number else
    if function == 23 then server_name number else
    if function == 87 then file_name number else
    if function == 104 then directory_services_name number else []

-- of a function, with or without a subfunction; none where it isn't known
abbrev pub function_name : ℕ → Sub → List ℕ
function_name function Absent = plain_name function
function_name function Cut = []
function_name function (Number number) = sub_name function number
